-- Insertion into order, and that a list in order is told by its counts.
use Rattle.std.proofs.Common.{◌≡◌, ℕ, ◌+◌, Bool, true, false, cond, not, List, [], ◌∷◌, refl, sym, ap, ◌∙◌, arith}
use Rattle.std.specs.Prelude.{count_by, filter}
use Rattle.std.specs.List.{list_all}
use Rattle.std.specs.declared.cmp.Ordering.{Ordering}
use Rattle.std.specs.declared.cmp.Ordering.TheVariants.{Less, Equal, Greater}
use Rattle.std.specs.Ordering.{is_gt, is_eq, ordering_reverse}
use Rattle.std.specs.Cmp.{IsTotalOrder, alike_right, tied_itself, upto}
use Rattle.cell_sight.proofs.Counts.{count-cons, count-none}
use Rattle.cell_sight.proofs.Truths.{left, right, both, turn}

-- none of the later ones is below an earlier one
abbrev pub Ordered : {X : Type 0} → (X → X → Ordering) → List X → Type 0
Ordered R [] = Unit {0}
Ordered R (x ∷ xs) = (list_all (λ y. not (is_gt (R x y))) xs ≡ true) × Ordered R xs

-- an element at its place
abbrev pub placed : {X : Type 0} → (X → X → Ordering) → X → List X → List X
placed R c [] = c ∷ []
placed R c (d ∷ ds) = cond (is_gt (R c d)) (d ∷ placed R c ds) (c ∷ d ∷ ds)

pub count-placed : {X : Type 0} (R : X → X → Ordering) (p : X → Bool) (c : X) (ds : List X) → count_by p (placed R c ds) ≡ cond (p c) 1 0 + count_by p ds
count-placed R p c [] = count-cons p c []
count-placed R p c (d ∷ ds) = let h = count-placed R p c ds in elim (is_gt (R c d)) as (λ b. count_by p (cond b (d ∷ placed R c ds) (c ∷ d ∷ ds)) ≡ cond (p c) 1 0 + count_by p (d ∷ ds)) [
  | true ↦ omega (arith, count-cons p d (placed R c ds), count-cons p d ds, h)
  | false ↦ count-cons p c (d ∷ ds)
]

-- what each of a list passes, each of it with one more placed in it passes
pub all-placed : {X : Type 0} (R : X → X → Ordering) (p : X → Bool) (c : X) (ds : List X) → p c ≡ true → list_all p ds ≡ true → list_all p (placed R c ds) ≡ true
all-placed R p c [] h k = both (p c) true h refl
all-placed R p c (d ∷ ds) h k = elim (is_gt (R c d)) as (λ b. list_all p (cond b (d ∷ placed R c ds) (c ∷ d ∷ ds)) ≡ true) [
  | true ↦ both (p d) _ (left (p d) _ k) (all-placed R p c ds h (right (p d) _ k))
  | false ↦ both (p c) _ h k
]

module _ {X : Type 0} {R : X → X → Ordering} (o : IsTotalOrder R) where
  not_both : (r s : Ordering) → r ≡ ordering_reverse s → is_gt r ≡ true → not (is_gt s) ≡ true
  not_both r Less e h = refl
  not_both r Equal e h = refl
  not_both r Greater e h = let f : is_gt r ≡ false = ap is_gt e in absurd (cc)

  -- what is not below the first is not below what is not above it
  pub all_above : (c d : X) (ds : List X) → is_gt (R c d) ≡ false → list_all (λ y. not (is_gt (R d y))) ds ≡ true → list_all (λ y. not (is_gt (R c y))) ds ≡ true
  all_above c d [] h k = refl
  all_above c d (e ∷ es) h k =
      both (not (is_gt (R c e))) _ (ap not (upto o c d e h (turn _ (left (not (is_gt (R d e))) _ k)))) (all_above c d es h (right (not (is_gt (R d e))) _ k))

  pub ordered-placed : (c : X) (ds : List X) → Ordered R ds → Ordered R (placed R c ds)
  ordered-placed c [] h = (refl, tt)
  ordered-placed c (d ∷ ds) h = elim (is_gt (R c d)) as (λ b. is_gt (R c d) ≡ b → Ordered R (cond b (d ∷ placed R c ds) (c ∷ d ∷ ds))) [
    | true ↦ λ e. (all-placed R (λ y. not (is_gt (R d y))) c ds (not_both (R c d) (R d c) (o.antisymm c d) e) h.0, ordered-placed c ds h.1)
    | false ↦ λ e. (both (not (is_gt (R c d))) _ (ap not e) (all_above c d ds e h.0), h)
  ] refl

  -- below one is below all that aren't below that
  less_then : (x y z : X) (r : Ordering) → R y z ≡ r → R x y ≡ Less → is_gt r ≡ false → R x z ≡ Less
  less_then x y z Less e h k = o.trans x y z h e
  less_then x y z Equal e h k = sym (alike_right o y z x e) ∙ h
  less_then x y z Greater e h k = absurd (cc)

  none_is : (x y : X) (zs : List X) → R x y ≡ Less → list_all (λ z. not (is_gt (R y z))) zs ≡ true → list_all (λ z. not (is_eq (R x z))) zs ≡ true
  none_is x y [] h k = refl
  none_is x y (z ∷ zs) h k =
      let l = less_then x y z (R y z) refl h (turn _ (left (not (is_gt (R y z))) _ k)) in
      both (not (is_eq (R x z))) _ (ap (λ r. not (is_eq r)) l) (none_is x y zs h (right (not (is_gt (R y z))) _ k))

  count_self : (x : X) (xs : List X) → count_by (λ z. is_eq (R x z)) (x ∷ xs) ≡ 1 + count_by (λ z. is_eq (R x z)) xs
  count_self x xs = count-cons (λ z. is_eq (R x z)) x xs ∙ ap (λ r. cond (is_eq r) 1 0 + count_by (λ z. is_eq (R x z)) xs) (tied_itself o x)

  -- the first of one list isn't below the first of another with the same counts
  not_less : (x : X) (xs : List X) (y : X) (ys : List X) → Ordered R (y ∷ ys) → ((p : X → Bool) → count_by p (x ∷ xs) ≡ count_by p (y ∷ ys)) → R x y ≡ Less → ⊥
  not_less x xs y ys h e l =
      let none : count_by (λ z. is_eq (R x z)) (y ∷ ys) ≡ 0 =
      count-none (λ z. is_eq (R x z)) (y ∷ ys) (both (not (is_eq (R x y))) _ (ap (λ r. not (is_eq r)) l) (none_is x y ys l h.0)) in
      let some = count_self x xs in
      let k = e (λ z. is_eq (R x z)) in
      absurd (omega arith)

  turned : (r s : Ordering) → r ≡ ordering_reverse s → s ≡ Greater → r ≡ Less
  turned r s e h = e ∙ ap ordering_reverse h

  tied : (x : X) (xs : List X) (y : X) (ys : List X) → Ordered R (x ∷ xs) → Ordered R (y ∷ ys) → ((p : X → Bool) → count_by p (x ∷ xs) ≡ count_by p (y ∷ ys))
      → (r : Ordering) → R x y ≡ r → R x y ≡ Equal
  tied x xs y ys h k e Less i = absurd (not_less x xs y ys k e i)
  tied x xs y ys h k e Equal i = i
  tied x xs y ys h k e Greater i = absurd (not_less y ys x xs h (λ p. sym (e p)) (turned (R y x) (R x y) (o.antisymm y x) i))

  -- two lists in order with the same counts are equal, where only equal elements tie
  pub ordered_equal : ((x y : X) → R x y ≡ Equal → x ≡ y) → (xs ys : List X) → Ordered R xs → Ordered R ys → ((p : X → Bool) → count_by p xs ≡ count_by p ys) → xs ≡ ys
  ordered_equal same [] [] h k e = refl
  ordered_equal same [] (y ∷ ys) h k e = let z = e (λ x. true) in let i = count-cons (λ x. true) y ys in absurd (omega arith)
  ordered_equal same (x ∷ xs) [] h k e = let z = e (λ x. true) in let i = count-cons (λ x. true) x xs in absurd (omega arith)
  ordered_equal same (x ∷ xs) (y ∷ ys) h k e =
      let q : x ≡ y = same x y (tied x xs y ys h k e (R x y) refl) in
      let rest : xs ≡ ys = ordered_equal same xs ys h.1 k.1 (λ p.
      let a = e p in let b = count-cons p x xs in let c = count-cons p y ys in
      let d : ◌≡◌ {A = ℕ} (cond (p x) 1 0) (cond (p y) 1 0) = ap (λ z. cond (p z) 1 0) q in omega arith) in
      λ i. q i ∷ rest i

-- each of some passes what each of all passes
pub all-filter : {X : Type 0} (p q : X → Bool) (xs : List X) → list_all p xs ≡ true → list_all p (filter q xs) ≡ true
all-filter p q [] h = refl
all-filter p q (x ∷ xs) h = elim (q x) as (λ b. list_all p (cond b (x ∷ filter q xs) (filter q xs)) ≡ true) [
  | true ↦ both (p x) _ (left (p x) _ h) (all-filter p q xs (right (p x) _ h))
  | false ↦ all-filter p q xs (right (p x) _ h)
]

-- some of a list in order are in order
pub ordered-filter : {X : Type 0} (R : X → X → Ordering) (q : X → Bool) (xs : List X) → Ordered R xs → Ordered R (filter q xs)
ordered-filter R q [] h = tt
ordered-filter R q (x ∷ xs) h = elim (q x) as (λ b. Ordered R (cond b (x ∷ filter q xs) (filter q xs))) [
  | true ↦ (all-filter _ q xs h.0, ordered-filter R q xs h.1)
  | false ↦ ordered-filter R q xs h.1
]
