-- What is visible shows as it is.
use Rattle.std.proofs.Common.{◌≡◌, ℕ, ◌≤◌, Bool, true, false, cond, not, ◌&&◌, ◌||◌, List, [], ◌∷◌, inl, inr, refl, ap, ◌∙◌, arith}
use Rattle.std.specs.Prelude.{filter, count_by, nat_lt}
use Rattle.std.specs.List.{list_any, list_all}
use Rattle.std.specs.declared.cmp.Ordering.{Ordering}
use Rattle.std.specs.declared.cmp.Ordering.TheVariants.{Less, Equal, Greater}
use Rattle.std.specs.Ordering.{is_gt, is_lt}
use Rattle.std.proofs.lemmas.Bool.{ltb-true, lt-ltb}
use Rattle.hb_cell.specs.declared.cell.Cell.{Cell}
use Rattle.hb_cell.specs.declared.kind.Kind.{Kind}
use Rattle.hb_cell.specs.declared.kind.Kind.TheVariants.{Put, Delete, DeleteColumn, DeleteFamily}
use Rattle.hb_cell.specs.Order.{key_cmp}
use Rattle.cell_sight.specs.Member.{Member}
use Rattle.hb_cell.specs.Hiding.{hides, hides_as}
use Rattle.cell_sight.specs.Same.{sorted}
use Rattle.cell_sight.specs.Visible.{is_put, same_version, versions_of, is_newer, unhidden, firsts, newest, visible}
use Rattle.cell_sight.specs.VisibleLaws.{Rises, SeenAgain}
use Rattle.cell_sight.proofs.Counts.{count-cons}
use Rattle.cell_sight.proofs.InOrder.{sorted-ordered}
use Rattle.cell_sight.proofs.Members.{of_filter, of_all, all_by}
use Rattle.cell_sight.proofs.ShownExactly.{ascends, shows_exactly}
use Rattle.cell_sight.proofs.Sorting.{Ordered}
use Rattle.cell_sight.proofs.Truths.{left, right}

filter-all : {X : Type 0} (p : X → Bool) (xs : List X) → list_all p xs ≡ true → filter p xs ≡ xs
filter-all p [] h = refl
filter-all p (x ∷ xs) h = ap (λ b. cond b (x ∷ filter p xs) (filter p xs)) (left (p x) _ h) ∙ ap (λ ys. x ∷ ys) (filter-all p xs (right (p x) _ h))

not_gt : (r : Ordering) → is_lt r ≡ true → not (is_gt r) ≡ true
not_gt Less h = refl
not_gt Equal h = absurd (cc)
not_gt Greater h = absurd (cc)

pub ordered_rises : (xs : List Cell) → Rises xs → Ordered key_cmp xs
ordered_rises [] h = tt
ordered_rises (x ∷ xs) h = (all_by (λ d. not (is_gt (key_cmp x d))) xs (λ d m. not_gt (key_cmp x d) (of_all (λ d. is_lt (key_cmp x d)) d xs h.0 m)), ordered_rises xs h.1)

-- a put hides nothing
pub no_hider : (k : Kind) (m c : Cell) → is_put k ≡ true → hides_as k m c ≡ false
no_hider Put m c h = refl
no_hider Delete m c h = absurd (cc)
no_hider DeleteColumn m c h = absurd (cc)
no_hider DeleteFamily m c h = absurd (cc)

no_any : {X : Type 0} (p : X → Bool) (xs : List X) → ((x : X) → Member x xs → p x ≡ false) → list_any p xs ≡ false
no_any p [] h = refl
no_any p (x ∷ xs) h = ap (λ b. b || list_any p xs) (h x (inl refl)) ∙ no_any p xs (λ y m. h y (inr m))

puts_unhidden : (xs : List Cell) → ((c : Cell) → Member c xs → is_put c.kind ≡ true) → unhidden xs ≡ xs
puts_unhidden xs h = filter-all (λ c. is_put c.kind && not (list_any (λ m. hides m c) xs)) xs (all_by _ xs (λ c m.
    ap (λ b. b && not (list_any (λ m. hides m c) xs)) (h c m) ∙ ap not (no_any (λ m. hides m c) xs (λ d n. no_hider d.kind d c (h d n)))))

-- no two of one column and timestamp
abbrev Apart : List Cell → Type 0
Apart [] = Unit {0}
Apart (x ∷ xs) = (list_all (λ d. not (same_version x d)) xs ≡ true) × Apart xs

apart_firsts : (xs : List Cell) → Apart xs → firsts xs ≡ xs
apart_firsts [] h = refl
apart_firsts (x ∷ xs) h = ap (λ ys. x ∷ ys) (ap (filter (λ d. not (same_version x d))) (apart_firsts xs h.1) ∙ filter-all (λ d. not (same_version x d)) xs h.0)

apart_filter : (q : Cell → Bool) (xs : List Cell) → Apart xs → Apart (filter q xs)
apart_filter q [] h = tt
apart_filter q (x ∷ xs) h = elim (q x) as (λ b. Apart (cond b (x ∷ filter q xs) (filter q xs))) [
  | true ↦ (all_by (λ d. not (same_version x d)) (filter q xs) (λ d m. of_all (λ d. not (same_version x d)) d xs h.0 (of_filter q d xs m).0), apart_filter q xs h.1)
  | false ↦ apart_filter q xs h.1
]

firsts_apart : (xs : List Cell) → Apart (firsts xs)
firsts_apart [] = tt
firsts_apart (x ∷ xs) = (
  all_by (λ d. not (same_version x d)) _ (λ d m. (of_filter (λ d. not (same_version x d)) d (firsts xs) m).1),
  apart_filter (λ d. not (same_version x d)) (firsts xs) (firsts_apart xs),
)

no_more : (p q : Cell → Bool) (xs : List Cell) → count_by p (filter q xs) ≤ count_by p xs
no_more p q [] = omega arith
no_more p q (x ∷ xs) = let i = no_more p q xs in let a = count-cons p x xs in elim (q x) as (λ b. count_by p (cond b (x ∷ filter q xs) (filter q xs)) ≤ count_by p (x ∷ xs)) [
  | true ↦ omega (arith, count-cons p x (filter q xs))
  | false ↦ omega arith
]

newest_again : (families : List (List ℕ × ℕ)) (ws : List Cell) → newest families (newest families ws) ≡ newest families ws
newest_again families ws = filter-all _ (newest families ws) (all_by _ (newest families ws) (λ c m.
    let k = of_filter (λ c. nat_lt (count_by (λ d. is_newer d c) ws) (versions_of families c.family)) c ws m in
    let few = ltb-true (count_by (λ d. is_newer d c) ws) (versions_of families c.family) k.1 in
    let less = no_more (λ d. is_newer d c) (λ c. nat_lt (count_by (λ d. is_newer d c) ws) (versions_of families c.family)) ws in
    lt-ltb _ _ (omega (arith, few, less))))

visible_put : (families : List (List ℕ × ℕ)) (cells : List Cell) (c : Cell) → Member c (visible families cells) → is_put c.kind ≡ true
visible_put families cells c m = let k = (shows_exactly families cells c).0 m in let w = k.0 in w.unhidden.1

pub seen_again : (families : List (List ℕ × ℕ)) (cells : List Cell) → SeenAgain families cells
seen_again families cells =
    let v = visible families cells in
    ap (λ xs. newest families (firsts (unhidden xs))) (sorted-ordered v (ordered_rises v (ascends families cells)))
    ∙ ap (λ xs. newest families (firsts xs)) (puts_unhidden v (visible_put families cells))
    ∙ ap (newest families) (apart_firsts v (apart_filter _ (firsts (unhidden (sorted cells))) (firsts_apart (unhidden (sorted cells)))))
    ∙ newest_again families (firsts (unhidden (sorted cells)))
