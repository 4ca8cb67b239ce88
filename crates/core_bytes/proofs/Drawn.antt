-- What is known of names that were drawn stays: their cells and their sizes.
use Rattle.std.proofs.Common.{◌≡◌, ℕ, ◌≤◌, true, false, cond, List, Some, None, refl, sym, ◌∙◌}
use Rattle.hb_layout.specs.declared.base.Base.{Base}
use Rattle.hb_cell.specs.Order.{same_bytes}
use Rattle.core_model.specs.declared.recipe.Recipe.TheVariants as recipes
use Rattle.core_model.specs.declared.targets.MoveFrom.TheVariants as moves
use Rattle.core_model.specs.declared.step.Step.{Step}
use Rattle.core_model.specs.declared.step.Step.TheVariants as step
use Rattle.core_model.specs.Allows.{Allows}
use Rattle.core_model.specs.Entries.{stem}
use Rattle.core_model.specs.FileChanges.{made_by, sizes_by}
use Rattle.core_model.specs.FileFacts.{IsDrawn}
use Rattle.core_model.specs.FileGuards.{next_name}
use Rattle.core_model.specs.Keys.{same_base}
use Rattle.core_model.specs.Sound.{IsSound}
use Rattle.core_model.specs.State.{Parts, Written}
use Rattle.core_sound.proofs.Draws.{other_digits, stem_drawn}
use Rattle.core_sound.proofs.NamesKept.{staged_stem}
use Rattle.core_sound.proofs.Tests.{same_bytes-true, same_base-true}

kept_at : {A : Type 0} (s : Parts) (name : List ℕ) (v : A) (b : Base) (o : A) → s.files ≤ 4_194_304 → name ≡ next_name s.epoch s.files None → IsDrawn s.epoch s.files b.name → cond (same_bytes (stem b.name) name) v o ≡ o
kept_at s name v b o few n d = (elim (same_bytes (stem b.name) name) as (λ x. same_bytes (stem b.name) name ≡ x → cond x v o ≡ o) [
  | true ↦ λ e. absurd (other_digits s.epoch s.files b.name few d (same_bytes-true (stem b.name) name e ∙ n))
  | false ↦ λ e. refl
]) refl

kept_beside : {A : Type 0} (s : Parts) (base : Base) (n : ℕ) (v : A) (b : Base) (o : A) → s.files ≤ 4_194_304 → base.name ≡ next_name s.epoch s.files (Some n) → IsDrawn s.epoch s.files b.name → cond (same_base b base) v o ≡ o
kept_beside s base n v b o few i d = (elim (same_base b base) as (λ x. same_base b base ≡ x → cond x v o ≡ o) [
  | true ↦ λ e. absurd (other_digits s.epoch s.files b.name few d (staged_stem s base b n i (same_base-true b base e)))
  | false ↦ λ e. refl
]) refl

pub made_stays : (p : Step) (s : Parts) → s.files ≤ 4_194_304 → Allows p s → (b : Base) → IsDrawn s.epoch s.files b.name → made_by p s.made b ≡ s.made b
made_stays (step.WriteTmp actor (recipes.Frozen region family) name cells bytes) s few a b d = kept_at s name (Some cells) b (s.made b) few a.new d
made_stays (step.WriteTmp actor (recipes.Merge region inputs major) name cells bytes) s few a b d = kept_at s name (Some cells) b (s.made b) few a.new d
made_stays (step.WriteTmp actor (recipes.Piece source start end) name cells bytes) s few a b d = kept_at s name (Some cells) b (s.made b) few a.new d
made_stays (step.Place actor (moves.StagedBulk folder name) base cells) s few a b d = kept_beside s base _ (Some cells) b (s.made b) few a.moved.named d
made_stays _ s few a b d = refl

pub sizes_stay : (p : Step) (s : Parts) → s.files ≤ 4_194_304 → Allows p s → (b : Base) → IsDrawn s.epoch s.files b.name → sizes_by p s.opened s.sizes b ≡ s.sizes b
sizes_stay (step.WriteTmp actor recipe name cells bytes) s few a b d = kept_at s name _ b (s.sizes b) few a.new d
sizes_stay (step.Place actor (moves.StagedBulk folder name) base cells) s few a b d = kept_beside s base _ _ b (s.sizes b) few a.moved.named d
sizes_stay _ s few a b d = refl

-- a base with the digits of a written name was drawn before the next
pub digits_drawn : (s : Parts) (m : List ℕ) (w : Written) → IsSound s → s.written m ≡ Some w → (b : Base) → stem b.name ≡ m → IsDrawn s.epoch s.files b.name
digits_drawn s m w h e b i = let k = h.known_tmps.at m w e in
    record { not_again = λ n u v j. (h.names.recipe m w e).not_again n u v (stem_drawn s.epoch k.0 m k.1 ∙ sym i ∙ j) }
