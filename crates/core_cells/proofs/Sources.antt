-- Each step keeps what the files of loads have.
use Rattle.std.proofs.Common.{◌≡◌, ◌≤◌, ℕ, ◌==◌, ◌&&◌, true, false, not, cond, List, [], Option, Some, None, refl, sym, ap, ◌∙◌, subst, inl, inr}
use Rattle.cell_sight.specs.Member.{Member}
use Rattle.cell_sight.proofs.Members.{of_filter}
use Rattle.hb_cell.specs.declared.cell.Cell.{Cell}
use Rattle.hb_cell.specs.Order.{is_below, same_bytes}
use Rattle.hb_layout.specs.declared.base.Base.{Base}
use Rattle.plain_model.specs.declared.who.Actor.{Actor}
use Rattle.plain_model.specs.Rows.{is_before_end}
use Rattle.core_model.specs.declared.recipe.Recipe.{Recipe}
use Rattle.core_model.specs.declared.recipe.Recipe.TheVariants as recipes
use Rattle.core_model.specs.declared.step.Step.{Step}
use Rattle.core_model.specs.declared.step.Step.TheVariants as step
use Rattle.core_model.specs.declared.targets.MoveFrom.{MoveFrom}
use Rattle.core_model.specs.declared.targets.MoveFrom.TheVariants as moves
use Rattle.core_model.specs.ActorChanges.{placed_by}
use Rattle.core_model.specs.Allows.{Allows}
use Rattle.core_model.specs.Entries.{stem}
use Rattle.core_model.specs.FileChanges.{made_by, made_with, written_by}
use Rattle.core_model.specs.FileFacts.{IsDrawn}
use Rattle.core_model.specs.FileGuards.{CanPlace, next_name}
use Rattle.core_model.specs.Keys.{same_base, set_base}
use Rattle.core_model.specs.Recipes.{IsPiece, staged_cells}
use Rattle.core_model.specs.Recipes as given
use Rattle.core_model.specs.Sound.{IsSound}
use Rattle.core_model.specs.State.{Parts, Placed, Written}
use Rattle.core_sound.proofs.Draws.{other_digits}
use Rattle.core_sound.proofs.HoldsFound.{some_is}
use Rattle.core_sound.proofs.NamesKept.{piece_stem, staged_stem}
use Rattle.core_sound.proofs.Tests.{cond_cases, same_base-self, same_base-true, same_bytes-true}
use Rattle.core_beside.specs.Apart.{IsBeside}
use Rattle.core_cells.specs.Cells.{BulkFilled, HasCells, PiecesCut}
use Rattle.core_cells.proofs.Loads.{as_placed, placed_less, placed_was}

-- ---- the cells of what was placed stay what they are

written_elsewhere : (s : Parts) (name : List ℕ) (cells : List Cell) → s.files ≤ 4_194_304 → name ≡ next_name s.epoch s.files None → (b : Base) → IsDrawn s.epoch s.files b.name → made_with name cells s.made b ≡ s.made b
written_elsewhere s name cells few n b k = (elim (same_bytes (stem b.name) name) as (λ x. same_bytes (stem b.name) name ≡ x → cond x (Some cells) (s.made b) ≡ s.made b) [
  | true ↦ λ d. absurd (other_digits s.epoch s.files b.name few k (same_bytes-true (stem b.name) name d ∙ n))
  | false ↦ λ d. refl
]) refl

staged_elsewhere : (s : Parts) (base : Base) (cells : List Cell) (n : ℕ) → s.files ≤ 4_194_304 → base.name ≡ next_name s.epoch s.files (Some n) → (b : Base) → IsDrawn s.epoch s.files b.name → set_base base (Some cells) s.made b ≡ s.made b
staged_elsewhere s base cells n few i b k = (elim (same_base b base) as (λ x. same_base b base ≡ x → cond x (Some cells) (s.made b) ≡ s.made b) [
  | true ↦ λ d. absurd (other_digits s.epoch s.files b.name few k (staged_stem s base b n i (same_base-true b base d)))
  | false ↦ λ d. refl
]) refl

drawn_stays : (p : Step) (s : Parts) → s.files ≤ 4_194_304 → Allows p s → (b : Base) → IsDrawn s.epoch s.files b.name → made_by p s.made b ≡ s.made b
drawn_stays (step.WriteTmp actor (recipes.Frozen region family) name cells bytes) s few a b k = written_elsewhere s name cells few a.new b k
drawn_stays (step.WriteTmp actor (recipes.Merge region inputs major) name cells bytes) s few a b k = written_elsewhere s name cells few a.new b k
drawn_stays (step.WriteTmp actor (recipes.Piece source start end) name cells bytes) s few a b k = written_elsewhere s name cells few a.new b k
drawn_stays (step.Place actor (moves.StagedBulk folder name) base cells) s few a b k = staged_elsewhere s base cells _ few a.moved.named b k
drawn_stays _ s few a b k = refl

-- ---- what was placed for a load

filled_more : (p : Step) (s : Parts) → s.files ≤ 4_194_304 → Allows p s → IsBeside s → HasCells s → BulkFilled s.placed s.staged (made_by p s.made)
filled_more p s few a b k = record {
  whole = λ w c folder name m. drawn_stays p s few a c (b.placed.drawn w (as_placed c (moves.StagedBulk folder name)) m) ∙ k.filled.whole w c folder name m;
  cut = k.filled.cut;
}

less_filled : (a : ℕ) (s : Parts) → HasCells s → BulkFilled (λ w. cond (w == a) [] (s.placed w)) s.staged s.made
less_filled a s k = record {
  whole = λ w b folder name m. k.filled.whole w b folder name (placed_less (w == a) (s.placed w) _ m);
  cut = λ w b name m. k.filled.cut w b name (placed_less (w == a) (s.placed w) _ m);
}

staged_folder : (d e m n : List ℕ) → moves.StagedBulk d m ≡ moves.StagedBulk e n → d ≡ e
staged_folder d e m n z = (cc)

staged_file : (d e m n : List ℕ) → moves.StagedBulk d m ≡ moves.StagedBulk e n → m ≡ n
staged_file d e m n z = (cc)

piece_name : (m n : List ℕ) → moves.WrittenBulk m ≡ moves.WrittenBulk n → m ≡ n
piece_name m n z = (cc)

place_filled : (actor : Actor) (source : MoveFrom) (base : Base) (cells : List Cell) (s : Parts) → s.files ≤ 4_194_304 → CanPlace actor.0 source base cells s → IsSound s → IsBeside s → HasCells s
    → BulkFilled (placed_by (step.Place actor source base cells) s.placed) s.staged (made_by (step.Place actor source base cells) s.made)
place_filled actor source base cells s few g h b k = record {
  whole = λ w c folder name m. elim (placed_was actor.0 source base s w (as_placed c (moves.StagedBulk folder name)) m) [ inl i ↦ (filled_more (step.Place actor source base cells) s few g b k).whole w c folder name i | inr i ↦ whole_of source g c folder name i ];
  cut = λ w c name m. elim (placed_was actor.0 source base s w (as_placed c (moves.WrittenBulk name)) m) [ inl i ↦ k.filled.cut w c name i | inr i ↦ cut_of source g c name i ];
}
  where
    whole_of : (v : MoveFrom) → CanPlace actor.0 v base cells s → (c : Base) (folder name : List ℕ) → as_placed base v ≡ as_placed c (moves.StagedBulk folder name)
        → made_by (step.Place actor v base cells) s.made c ≡ Some (staged_cells s.staged folder c.family name)
    whole_of (moves.StagedBulk d m) p c folder name e =
        let x : base ≡ c = ap (λ (y : Placed). y.base) e in
        let f : moves.StagedBulk d m ≡ moves.StagedBulk folder name = ap (λ (y : Placed). y.from) e in
        ap (set_base base (Some cells) s.made) (sym x) ∙ ap (λ y. cond y (Some cells) (s.made base)) (same_base-self base) ∙ ap Some p.moved.same
        ∙ ap (λ y. Some (staged_cells s.staged y base.family m)) (staged_folder d folder m name f) ∙ ap (λ y. Some (staged_cells s.staged folder base.family y)) (staged_file d folder m name f) ∙ ap (λ (y : Base). Some (staged_cells s.staged folder y.family name)) x
    whole_of (moves.WrittenBulk m) p c folder name e = absurd (not_whole (ap (λ (x : Placed). x.from) e))
      where
        not_whole : moves.WrittenBulk m ≡ moves.StagedBulk folder name → ⊥
        not_whole z = absurd (cc)
    whole_of (moves.Written m) p c folder name e = absurd (not_whole (ap (λ (x : Placed). x.from) e))
      where
        not_whole : moves.Written m ≡ moves.StagedBulk folder name → ⊥
        not_whole z = absurd (cc)

    cut_of : (v : MoveFrom) → CanPlace actor.0 v base cells s → (c : Base) (name : List ℕ) → as_placed base v ≡ as_placed c (moves.WrittenBulk name) → stem c.name ≡ name
    cut_of (moves.WrittenBulk m) p c name e = piece_stem s actor.0 m base c h cells p (ap (λ (y : Placed). y.base) (sym e)) ∙ piece_name m name (ap (λ (y : Placed). y.from) e)
    cut_of (moves.StagedBulk d m) p c name e = absurd (not_cut (ap (λ (x : Placed). x.from) e))
      where
        not_cut : moves.StagedBulk d m ≡ moves.WrittenBulk name → ⊥
        not_cut z = absurd (cc)
    cut_of (moves.Written m) p c name e = absurd (not_cut (ap (λ (x : Placed). x.from) e))
      where
        not_cut : moves.Written m ≡ moves.WrittenBulk name → ⊥
        not_cut z = absurd (cc)

pub bulk_filled : (p : Step) (s : Parts) → s.files ≤ 4_194_304 → Allows p s → IsSound s → IsBeside s → HasCells s → BulkFilled (placed_by p s.placed) s.staged (made_by p s.made)
bulk_filled (step.Place actor source base cells) s few a h b k = place_filled actor source base cells s few a h b k
bulk_filled (step.WriteTmp actor recipe name cells bytes) s few a h b k = filled_more (step.WriteTmp actor recipe name cells bytes) s few a b k
bulk_filled (step.End actor refusal) s few a h b k = less_filled actor.0 s k
bulk_filled (step.Abandon actor) s few a h b k = less_filled actor.0 s k
bulk_filled _ s few a h b k = k.filled

-- ---- pieces

piece_cut : (recipe : Recipe) (cells : List Cell) (source start : List ℕ) (end : Option (List ℕ)) (s : Parts) → given.HasCells recipe s.plain s.made s.staged cells → recipe ≡ recipes.Piece source start end
    → (c : Cell) → Member c cells → (not (is_below c.row start) && is_before_end c.row end) ≡ true
piece_cut recipe cells source start end s g e c m =
    let p : IsPiece s.staged source start end cells = subst (λ r. given.HasCells r s.plain s.made s.staged cells) e g in
    (of_filter (λ (x : Cell). not (is_below x.row start) && is_before_end x.row end) c (staged_cells s.staged p.folder p.family p.name) (subst (Member c) p.same m)).1

pub pieces_cut : (p : Step) (s : Parts) → Allows p s → HasCells s → PiecesCut (written_by p s.written)
pieces_cut (step.WriteTmp actor recipe name cells bytes) s a k = record {
  at = λ m w source start end e q c i. cond_cases (same_bytes m name) (Some (record { by = actor.0; recipe = recipe; cells = cells })) (s.written m) (Some w) e
      (λ d z. let x = some_is z in piece_cut recipe cells source start end s a.gives (ap (λ (y : Written). y.recipe) x ∙ q) c (subst (λ (y : Written). Member c y.cells) (sym x) i))
      (λ d z. k.pieces.at m w source start end z q c i);
}
pieces_cut _ s a k = k.pieces
