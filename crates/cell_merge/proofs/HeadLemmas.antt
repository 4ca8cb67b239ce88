-- What the heads of inputs have left.
use Rattle.std.proofs.Common.{◌≡◌, ◌+◌, Bool, true, false, not, List, [], ◌∷◌, ◌++◌, refl, sym, ap, ◌∙◌}
use Rattle.std.specs.Prelude.{count_by, sum_by}
use Rattle.std.specs.List.{list_all}
use Rattle.std.specs.List.Sorted.{IsPermutation}
use Rattle.std.specs.Ordering.{is_gt}
use Rattle.std.specs.BinaryHeap.{IsUpperBound}
use Rattle.std.specs.Vec.Iter.{into_iter_items}
use Rattle.std.proofs.lemmas.List.Sums.{sum_by-cons}
use Rattle.std.proofs.lemmas.List.Sorted.{sum_by-IsPermutation}
use Rattle.std.proofs.lemmas.List.Elements.{All-head, All-tail}
use Rattle.hb_cell.specs.declared.cell.Cell.{Cell}
use Rattle.hb_cell.specs.Order.{key_cmp}
use Rattle.hb_cell.specs.OrderLaws.{key_cmp_total}
use Rattle.cell_sight.specs.Same.{Same, sorted}
use Rattle.cell_sight.proofs.Counts.{count-append, same-sym}
use Rattle.cell_sight.proofs.InOrder.{ordered_from, sorted-same}
use Rattle.cell_sight.proofs.Least.{sorted-least, all-append}
use Rattle.cell_sight.proofs.Sorting.{all_above}
use Rattle.cell_sight.proofs.Versions.{turned}
use Rattle.cell_merge.specs.declared.head.Head.{Head}
use Rattle.cell_merge.specs.Heads.{left_of, all_left, head_cmp, AreInOrder}
use Rattle.cell_sight.proofs.Truths.{both}

count-all_left : (p : Cell → Bool) (heads : List Head) → count_by p (all_left heads) ≡ sum_by (λ head. count_by p (left_of head)) heads
count-all_left p [] = refl
count-all_left p (head ∷ heads) =
    count-append p (left_of head) (all_left heads) ∙ ap (λ n. count_by p (left_of head) + n) (count-all_left p heads)
    ∙ sym (sum_by-cons (λ head. count_by p (left_of head)) head heads)

-- heads in another order have the same cells left
pub same_left : (heads others : List Head) → IsPermutation heads others → Same (all_left others) (all_left heads)
same_left heads others m = record { at = λ p. count-all_left p others ∙ sum_by-IsPermutation (λ head. count_by p (left_of head)) heads others m ∙ sym (count-all_left p heads) }

-- none of the cells left is below that of a head that no other one is above
below_all : (top : Head) (heads : List Head) → IsUpperBound head_cmp top heads → AreInOrder heads
    → list_all (λ d. not (is_gt (key_cmp top.cell d))) (all_left heads) ≡ true
below_all top [] u o = refl
below_all top (head ∷ heads) u o =
    let above : is_gt (key_cmp top.cell head.cell) ≡ false =
    sym (turned (key_cmp head.cell top.cell) (key_cmp top.cell head.cell) (key_cmp_total.antisymm head.cell top.cell)) ∙ u.0 in
    let first = ordered_from (left_of head) (All-head (λ head. sorted (left_of head) ≡ left_of head) head heads o) in
    all-append (λ d. not (is_gt (key_cmp top.cell d))) (left_of head) (all_left heads)
    (both (not (is_gt (key_cmp top.cell head.cell))) _ (ap not above) (all_above key_cmp_total top.cell head.cell (into_iter_items head.rest) above first.0))
    (below_all top heads u.1 (All-tail (λ head. sorted (left_of head) ≡ left_of head) head heads o))

-- the greatest head is taken, and what it has left is put back
pub taken_left : (old mid new : List Head) (top : Head) → IsPermutation old (top ∷ mid) → IsUpperBound head_cmp top mid → AreInOrder (top ∷ mid)
    → Same (all_left new) (into_iter_items top.rest ++ all_left mid) → sorted (all_left old) ≡ top.cell ∷ sorted (all_left new)
taken_left old mid new top m u o s =
    let P = λ (head : Head). sorted (left_of head) ≡ left_of head in
    let first = ordered_from (left_of top) (All-head P top mid o) in
    sorted-same (all_left old) (all_left (top ∷ mid)) (same-sym (same_left old (top ∷ mid) m))
    ∙ sorted-least top.cell (into_iter_items top.rest ++ all_left mid)
    (all-append (λ d. not (is_gt (key_cmp top.cell d))) (into_iter_items top.rest) (all_left mid) first.0 (below_all top mid u (All-tail P top mid o)))
    ∙ ap (λ ds. top.cell ∷ ds) (sorted-same _ _ (same-sym s))
