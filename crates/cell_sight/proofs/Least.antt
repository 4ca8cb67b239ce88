-- The least cell comes first.
use Rattle.std.proofs.Common.{◌≡◌, Bool, true, false, not, ◌&&◌, List, [], ◌∷◌, ◌++◌}
use Rattle.std.specs.List.{list_all}
use Rattle.std.specs.Ordering.{is_gt}
use Rattle.hb_cell.specs.declared.cell.Cell.{Cell}
use Rattle.hb_cell.specs.Order.{key_cmp}
use Rattle.cell_sight.specs.Same.{sorted}
use Rattle.cell_sight.proofs.InOrder.{in_place-least}
use Rattle.cell_sight.proofs.Members.{all-sorted}

-- a cell that no other one is below
pub sorted-least : (c : Cell) (xs : List Cell) → list_all (λ d. not (is_gt (key_cmp c d))) xs ≡ true → sorted (c ∷ xs) ≡ c ∷ sorted xs
sorted-least c xs h = in_place-least c (sorted xs) (all-sorted (λ d. not (is_gt (key_cmp c d))) xs h)

pub all-append : {X : Type 0} (p : X → Bool) (xs ys : List X) → list_all p xs ≡ true → list_all p ys ≡ true → list_all p (xs ++ ys) ≡ true
all-append p [] ys h k = k
all-append p (x ∷ xs) ys h k = elim (p x) as (λ b. (b && list_all p xs) ≡ true → (b && list_all p (xs ++ ys)) ≡ true) [
  | true ↦ λ e. all-append p xs ys e k
  | false ↦ λ e. absurd (cc)
] h
