-- Counts of lists, and lists with the same cells.
use Rattle.std.proofs.Common.{◌≡◌, ℕ, ◌+◌, Bool, true, false, cond, not, ◌&&◌, List, [], ◌∷◌, ◌++◌, refl, sym, ap, ◌∙◌, subst, arith, zero-add}
use Rattle.std.specs.Prelude.{count_by, filter}
use Rattle.std.specs.List.{list_all}
use Rattle.std.proofs.lemmas.List.Sums.{sum_by-append}
use Rattle.hb_cell.specs.declared.cell.Cell.{Cell}
use Rattle.cell_sight.specs.Same.{Same}

pub count-append : {X : Type 0} (p : X → Bool) (xs ys : List X) → count_by p (xs ++ ys) ≡ count_by p xs + count_by p ys
count-append p xs ys = sum_by-append (λ x. cond (p x) 1 0) xs ys

pub count-cons : {X : Type 0} (p : X → Bool) (x : X) (xs : List X) → count_by p (x ∷ xs) ≡ cond (p x) 1 0 + count_by p xs
count-cons p x xs = sum_by-append (λ y. cond (p y) 1 0) (x ∷ []) xs ∙ ap (λ n. n + count_by p xs) (zero-add (cond (p x) 1 0))

pub count-filter : {X : Type 0} (p q : X → Bool) (xs : List X) → count_by p (filter q xs) ≡ count_by (λ x. q x && p x) xs
count-filter p q [] = refl
count-filter p q (x ∷ xs) = let h = count-filter p q xs in (elim (q x) as (λ b. count_by p (cond b (x ∷ filter q xs) (filter q xs)) ≡ cond (b && p x) 1 0 + count_by (λ x. q x && p x) xs) [
  | true ↦ count-cons p x (filter q xs) ∙ ap (λ n. cond (p x) 1 0 + n) h
  | false ↦ h ∙ sym (zero-add _)
]) ∙ sym (count-cons (λ x. q x && p x) x xs)

no_count : (b : Bool) (n : ℕ) → not b ≡ true → n ≡ 0 → cond b 1 0 + n ≡ 0
no_count true n h e = absurd (cc)
no_count false n h e = omega arith

both_left : (a b : Bool) → (a && b) ≡ true → a ≡ true
both_left true b h = refl
both_left false b h = absurd (cc)

both_right : (a b : Bool) → (a && b) ≡ true → b ≡ true
both_right true b h = h
both_right false b h = absurd (cc)

-- none passes
pub count-none : {X : Type 0} (p : X → Bool) (xs : List X) → list_all (λ x. not (p x)) xs ≡ true → count_by p xs ≡ 0
count-none p [] h = refl
count-none p (x ∷ xs) h = count-cons p x xs ∙ no_count (p x) (count_by p xs) (both_left _ _ h) (count-none p xs (both_right (not (p x)) _ h))

pub same-refl : (xs : List Cell) → Same xs xs
same-refl xs = record { at = λ p. refl }

pub same-sym : {xs ys : List Cell} → Same xs ys → Same ys xs
same-sym h = record { at = λ p. sym (h.at p) }

pub same-trans : {xs ys zs : List Cell} → Same xs ys → Same ys zs → Same xs zs
same-trans h k = record { at = λ p. h.at p ∙ k.at p }

pub same-append : {xs ys us vs : List Cell} → Same xs ys → Same us vs → Same (xs ++ us) (ys ++ vs)
same-append {xs} {ys} {us} {vs} h k = record { at = λ p. let a = h.at p in let b = k.at p in omega (arith, count-append p xs us, count-append p ys vs) }

pub same-filter : {xs ys : List Cell} (q : Cell → Bool) → Same xs ys → Same (filter q xs) (filter q ys)
same-filter {xs} {ys} q h = record { at = λ p. count-filter p q xs ∙ h.at (λ x. q x && p x) ∙ sym (count-filter p q ys) }

pub same-equal : {xs ys : List Cell} → xs ≡ ys → Same xs ys
same-equal {xs} e = subst (Same xs) e (same-refl xs)

-- what is behind the same cells
pub same-rest : {xs us ys vs : List Cell} → Same (xs ++ us) (ys ++ vs) → Same xs ys → Same us vs
same-rest {xs} {us} {ys} {vs} h k = record { at = λ p. let a = h.at p in let b = k.at p in omega (arith, count-append p xs us, count-append p ys vs) }
