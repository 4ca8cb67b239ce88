-- Cells in key order.
use Rattle.std.proofs.Common.{◌≡◌, ◌+◌, Bool, true, false, cond, not, ◌&&◌, List, [], ◌∷◌, refl, sym, ap, ◌∙◌, subst}
use Rattle.std.specs.List.{list_all}
use Rattle.std.specs.Prelude.{count_by, filter}
use Rattle.std.specs.Ordering.{is_gt}
use Rattle.hb_cell.specs.declared.cell.Cell.{Cell}
use Rattle.hb_cell.specs.Order.{key_cmp}
use Rattle.hb_cell.specs.OrderLaws.{key_cmp_total}
use Rattle.cell_sight.specs.Same.{Same, in_place, sorted}
use Rattle.cell_sight.specs.VisibleLaws.{SameSorted}
use Rattle.cell_sight.proofs.Counts.{count-cons, same-sym, same-trans, same-filter, same-equal}
use Rattle.hb_cell.proofs.SameKeys.{key_cmp-same}
use Rattle.cell_sight.proofs.Sorting.{Ordered, placed, count-placed, ordered-placed, ordered_equal, ordered-filter}

in_place-placed : (c : Cell) (ds : List Cell) → in_place c ds ≡ placed key_cmp c ds
in_place-placed c [] = refl
in_place-placed c (d ∷ ds) = ap (λ es. cond (is_gt (key_cmp c d)) (d ∷ es) (c ∷ d ∷ ds)) (in_place-placed c ds)

pub count-sorted : (p : Cell → Bool) (cs : List Cell) → count_by p (sorted cs) ≡ count_by p cs
count-sorted p [] = refl
count-sorted p (c ∷ cs) =
    ap (count_by p) (in_place-placed c (sorted cs)) ∙ count-placed key_cmp p c (sorted cs)
    ∙ ap (λ n. cond (p c) 1 0 + n) (count-sorted p cs) ∙ sym (count-cons p c cs)

pub same-sorted : (cs : List Cell) → Same (sorted cs) cs
same-sorted cs = record { at = λ p. count-sorted p cs }

pub ordered-sorted : (cs : List Cell) → Ordered key_cmp (sorted cs)
ordered-sorted [] = tt
ordered-sorted (c ∷ cs) = subst (Ordered key_cmp) (sym (in_place-placed c (sorted cs))) (ordered-placed key_cmp_total c (sorted cs) (ordered-sorted cs))

-- lists in order with the same cells are equal
pub same_order : (xs ys : List Cell) → Ordered key_cmp xs → Ordered key_cmp ys → Same xs ys → xs ≡ ys
same_order xs ys h k e = ordered_equal key_cmp_total key_cmp-same xs ys h k e.at

pub sorted-same : (xs ys : List Cell) → Same xs ys → sorted xs ≡ sorted ys
sorted-same xs ys e = same_order (sorted xs) (sorted ys) (ordered-sorted xs) (ordered-sorted ys) (same-trans (same-sorted xs) (same-trans e (same-sym (same-sorted ys))))

-- a list in order is in order
pub sorted-ordered : (xs : List Cell) → Ordered key_cmp xs → sorted xs ≡ xs
sorted-ordered xs h = same_order (sorted xs) xs (ordered-sorted xs) h (same-sorted xs)

-- some of the cells in order are some of those in order
pub sorted-filter : (q : Cell → Bool) (xs : List Cell) → sorted (filter q xs) ≡ filter q (sorted xs)
sorted-filter q xs = same_order _ _ (ordered-sorted (filter q xs)) (ordered-filter key_cmp q (sorted xs) (ordered-sorted xs))
    (same-trans (same-sorted (filter q xs)) (same-sym (same-filter q (same-sorted xs))))

pub same_sorted_both : (xs ys : List Cell) → SameSorted xs ys
same_sorted_both xs ys = (sorted-same xs ys, λ e. same-trans (same-sym (same-sorted xs)) (same-trans (same-equal e) (same-sorted ys)))

-- a list that stands as it is in order is in order
pub ordered_from : (xs : List Cell) → sorted xs ≡ xs → Ordered key_cmp xs
ordered_from xs e = subst (Ordered key_cmp) e (ordered-sorted xs)

no_left : (a b : Bool) → (not a && b) ≡ true → a ≡ false
no_left true b h = absurd (cc)
no_left false b h = refl

pub in_place-least : (c : Cell) (ds : List Cell) → list_all (λ d. not (is_gt (key_cmp c d))) ds ≡ true → in_place c ds ≡ c ∷ ds
in_place-least c [] h = refl
in_place-least c (d ∷ ds) h = ap (λ b. cond b (d ∷ in_place c ds) (c ∷ d ∷ ds)) (no_left (is_gt (key_cmp c d)) _ h)
