-- What an input gives, in key order.
use Rattle.std.proofs.Common.{◌≡◌, ℕ, ◌+◌, ◌<◌, Bool, false, cond, not, List, [], ◌∷◌, ◌++◌, length, map, Option, Some, None, refl, sym, ap, ◌∙◌, arith, get_or, add-one}
use Rattle.std.specs.Prelude.{filter, is_some, count_by}
use Rattle.std.specs.List.Sorted.{IsPermutation, IsSorted}
use Rattle.std.specs.Ordering.{is_gt, is_lt}
use Rattle.std.proofs.lemmas.List.Sorted.{sum_by-IsPermutation}
use Rattle.hb_cell.specs.declared.cell.Cell.{Cell}
use Rattle.hb_cell.specs.Order.{key_cmp}
use Rattle.hb_cell.specs.OrderLaws.{key_cmp_total}
use Rattle.cell_sight.specs.Same.{Same, sorted}
use Rattle.cell_sight.proofs.Counts.{count-append, same-sym, same-trans}
use Rattle.cell_sight.proofs.InOrder.{ordered_from, ordered-sorted, sorted-ordered, sorted-filter, same_order, same-sorted, sorted-same, count-sorted}
use Rattle.cell_sight.proofs.Sorting.{Ordered, all_above}
use Rattle.cell_sight.proofs.Versions.{turned}
use Rattle.cell_merge.specs.declared.input.Input.{Input}
use Rattle.cell_merge.specs.Input.{keeps, numbered, all_cells}
use Rattle.cell_sight.proofs.Truths.{both}

map-numbered_none : (cells : List Cell) → map (numbered None) cells ≡ cells
map-numbered_none [] = refl
map-numbered_none (c ∷ cs) = ap (λ ds. c ∷ ds) (map-numbered_none cs)

filter-keeps_none : (cells : List Cell) → filter (keeps None) cells ≡ cells
filter-keeps_none [] = refl
filter-keeps_none (c ∷ cs) = ap (λ ds. c ∷ ds) (filter-keeps_none cs)

-- without a number of its own, what a half keeps is in order
pub cut_in_order : (half : Option (List ℕ × Bool)) (seq : Option ℕ) (cells : List Cell) → is_some seq ≡ false → sorted cells ≡ cells
    → map (numbered seq) (filter (keeps half) cells) ≡ sorted (map (numbered seq) (filter (keeps half) cells))
cut_in_order half (Some n) cells h o = absurd (cc)
cut_in_order half None cells h o =
    map-numbered_none (filter (keeps half) cells)
    ∙ sym (sorted-filter (keeps half) cells ∙ ap (filter (keeps half)) o)
    ∙ ap sorted (sym (map-numbered_none (filter (keeps half) cells)))

-- and all of them, where nothing is cut
pub whole_in_order : (half : Option (List ℕ × Bool)) (seq : Option ℕ) (cells : List Cell) → is_some half ≡ false → is_some seq ≡ false → sorted cells ≡ cells
    → cells ≡ sorted (map (numbered seq) (filter (keeps half) cells))
whole_in_order (Some half) seq cells g h o = absurd (cc)
whole_in_order None (Some n) cells g h o = absurd (cc)
whole_in_order None None cells g h o = sym o ∙ ap sorted (sym (filter-keeps_none cells) ∙ sym (map-numbered_none (filter (keeps None) cells)))

behind : (x : Cell) (ys : List Cell) (k : ℕ) (d : Cell) → get_or (x ∷ ys) (k + 1) d ≡ get_or ys k d
behind x ys k d = rw add-one refl

-- none is below the one before it, so none is below an earlier one
ordered_sort : (xs : List Cell) → IsSorted key_cmp xs → Ordered key_cmp xs
ordered_sort [] h = tt
ordered_sort (x ∷ []) h = (refl, tt)
ordered_sort (x ∷ y ∷ ys) h =
    let rest : Ordered key_cmp (y ∷ ys) = ordered_sort (y ∷ ys) (λ k d l i.
    let e = behind x (y ∷ ys) (k + 1) d in let f = behind x (y ∷ ys) k d in
    let j : k + 1 + 1 < length (x ∷ y ∷ ys) = omega arith in
    let g : is_lt (key_cmp (get_or (y ∷ ys) (k + 1) d) (get_or (y ∷ ys) k d)) ≡ is_lt (key_cmp (get_or (x ∷ y ∷ ys) (k + 1 + 1) d) (get_or (x ∷ y ∷ ys) (k + 1) d))
    = λ i. is_lt (key_cmp (sym e i) (sym f i)) in
    g ∙ h (k + 1) d (omega arith) j) in
    let first : is_gt (key_cmp x y) ≡ false = sym (turned (key_cmp y x) (key_cmp x y) (key_cmp_total.antisymm y x)) ∙ h 0 x (omega arith) (omega arith) in
    (both (not (is_gt (key_cmp x y))) _ (ap not first) (all_above key_cmp_total x y ys first rest.0), rest)

-- what a sort gives
pub sort_gives : (xs ys : List Cell) → IsPermutation xs ys → IsSorted key_cmp ys → ys ≡ sorted xs
sort_gives xs ys m h = same_order ys (sorted xs) (ordered_sort ys h) (ordered-sorted xs)
    (same-trans (record { at = λ p. sum_by-IsPermutation (λ c. cond (p c) 1 0) xs ys m }) (same-sym (same-sorted xs)))

pub sorted-again : (xs : List Cell) → sorted (sorted xs) ≡ sorted xs
sorted-again xs = sorted-ordered (sorted xs) (ordered-sorted xs)

pub rest_in_order : (c : Cell) (cs : List Cell) → sorted (c ∷ cs) ≡ c ∷ cs → sorted cs ≡ cs
rest_in_order c cs h = let o = ordered_from (c ∷ cs) h in sorted-ordered cs o.1

-- an input's cells have gone over to the heads
pub moved_over : (new old items given rest all : List Cell) → Same new (items ++ old) → items ≡ sorted given → Same (old ++ (given ++ rest)) all → Same (new ++ rest) all
moved_over new old items given rest all s e h = record {
  at = λ p.
      let a = s.at p in let b = h.at p in let i : count_by p items ≡ count_by p given = ap (count_by p) e ∙ count-sorted p given in
      omega (arith, count-append p new rest, count-append p items old, count-append p old (given ++ rest), count-append p given rest);
}

no_more : {X : Type 0} (xs : List X) → length xs ≡ 0 → xs ≡ []
no_more [] e = refl
no_more (x ∷ xs) e = absurd (omega arith)

-- all inputs have gone over
pub all_moved : (left all : List Cell) (inputs : List Input) → length inputs ≡ 0 → Same (left ++ all_cells inputs) all → sorted left ≡ sorted all
all_moved left all inputs e s = sorted-same left all (record {
  at = λ p.
      let h = s.at p in let none : count_by p (all_cells inputs) ≡ 0 = ap (λ is. count_by p (all_cells is)) (no_more inputs e) in
      omega (arith, count-append p left (all_cells inputs));
})
