-- The cells of a base that is named stay what they are.
use Rattle.std.proofs.Common.{◌≡◌, ◌≤◌, ℕ, ◌++◌, true, false, cond, List, [], ◌∷◌, Some, None, refl, ap, ◌∙◌, inl, inr}
use Rattle.std.specs.Prelude.{map, filter, unwrap_or}
use Rattle.hb_cell.specs.declared.cell.Cell.{Cell}
use Rattle.hb_layout.specs.declared.base.Base.{Base}
use Rattle.hb_cell.specs.Order.{same_bytes}
use Rattle.cell_sight.specs.Member.{Member}
use Rattle.core_model.specs.declared.entry.Entry.{Entry}
use Rattle.core_model.specs.declared.recipe.Recipe.TheVariants as recipes
use Rattle.core_model.specs.declared.targets.MoveFrom.TheVariants as moves
use Rattle.core_model.specs.declared.step.Step.{Step}
use Rattle.core_model.specs.declared.step.Step.TheVariants as step
use Rattle.core_model.specs.Allows.{Allows}
use Rattle.core_model.specs.Disk.{is_live, is_archived}
use Rattle.core_model.specs.Entries.{Made, base_of, cells_of, cells_in, seq_of, with_seq, serves, stem}
use Rattle.core_model.specs.FileChanges.{made_by, made_with}
use Rattle.core_model.specs.FileFacts.{IsDrawn}
use Rattle.core_model.specs.FileGuards.{next_name}
use Rattle.core_model.specs.Keys.{same_base, set_base}
use Rattle.core_model.specs.Named.{IsNamed}
use Rattle.core_model.specs.Sound.{IsSound}
use Rattle.core_model.specs.State.{Parts}
use Rattle.core_sound.proofs.Draws.{other_digits}
use Rattle.core_sound.proofs.NameFacts.{store_name, drawn_digits}
use Rattle.core_sound.proofs.Tests.{same_bytes-true, same_base-true}

-- the name of a named base was drawn
named_drawn : (s : Parts) → IsSound s → (b : Base) → IsNamed s b → IsDrawn s.epoch s.files b.name
named_drawn s h b n = elim (h.places.at b n) [
  | is_live f e ↦ h.names.live_file b f e (store_name b.name (h.lawful.at b n).file)
  | is_archived f e ↦ h.names.archived_file b f e
]

written_stays : (s : Parts) (name : List ℕ) (cells : List Cell) → s.files ≤ 4_194_304 → name ≡ next_name s.epoch s.files None → IsSound s → (b : Base) → IsNamed s b → made_with name cells s.made b ≡ s.made b
written_stays s name cells few n h b k = (elim (same_bytes (stem b.name) name) as (λ x. same_bytes (stem b.name) name ≡ x → cond x (Some cells) (s.made b) ≡ s.made b) [
  | true ↦ λ d. absurd (other_digits s.epoch s.files b.name few (named_drawn s h b k) (same_bytes-true (stem b.name) name d ∙ n))
  | false ↦ λ d. refl
]) refl

staged_stays : (s : Parts) (b : Base) (cells : List Cell) (n : ℕ) → s.files ≤ 4_194_304 → b.name ≡ next_name s.epoch s.files (Some n) → IsSound s → (c : Base) → IsNamed s c → set_base b (Some cells) s.made c ≡ s.made c
staged_stays s b cells n few i h c k = (elim (same_base c b) as (λ x. same_base c b ≡ x → cond x (Some cells) (s.made c) ≡ s.made c) [
  | true ↦ λ d. absurd (other_digits s.epoch s.files c.name few (named_drawn s h c k) (ap (λ (y : Base). stem y.name) (same_base-true c b d) ∙ ap stem i ∙ drawn_digits s.epoch s.files (Some n)))
  | false ↦ λ d. refl
]) refl

pub made_stays : (p : Step) (s : Parts) → s.files ≤ 4_194_304 → Allows p s → IsSound s → (b : Base) → IsNamed s b → made_by p s.made b ≡ s.made b
made_stays (step.WriteTmp actor (recipes.Frozen region family) name cells bytes) s few a h b n = written_stays s name cells few a.new h b n
made_stays (step.WriteTmp actor (recipes.Merge region inputs major) name cells bytes) s few a h b n = written_stays s name cells few a.new h b n
made_stays (step.WriteTmp actor (recipes.Piece source start end) name cells bytes) s few a h b n = written_stays s name cells few a.new h b n
made_stays (step.Place actor (moves.StagedBulk folder name) base cells) s few a h b n = staged_stays s base cells _ few a.moved.named h b n
made_stays _ s few a h b n = refl

-- entries of bases with the same cells have the same cells
pub alike : (made more : Made) (es : List Entry) → ((e : Entry) → Member e es → more (base_of e) ≡ made (base_of e)) → cells_in more es ≡ cells_in made es
alike made more [] k = refl
alike made more (e ∷ es) k =
    ap (λ o. filter (serves e) (map (with_seq (seq_of (base_of e).name)) (unwrap_or o [])) ++ cells_in more es) (k e (inl refl)) ∙ ap (λ cs. cells_of made e ++ cs) (alike made more es (λ x i. k x (inr i)))

pub cells_stay : (p : Step) (s : Parts) → s.files ≤ 4_194_304 → Allows p s → IsSound s → (es : List Entry) → ((e : Entry) → Member e es → IsNamed s (base_of e)) → cells_in (made_by p s.made) es ≡ cells_in s.made es
cells_stay p s few a h es k = alike s.made (made_by p s.made) es (λ e m. made_stays p s few a h (base_of e) (k e m))
