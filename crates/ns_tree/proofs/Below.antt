-- Places below a directory stand together in the order of texts.
use Rattle.std.proofs.Common.{◌≡◌, ℕ, zero, suc, ◌<◌, ◌≤◌, List, [], ◌∷◌, Bool, true, false, ◌&&◌, ◌||◌, not, cond, refl, sym, ap, ◌∙◌, subst, nat_cmp, nat_eq, length, take, get_or, arith, inl, inr}
use Rattle.std.specs.Cmp.Lexicographic.{slice_cmp}
use Rattle.std.specs.List.{starts_with, filter, list_any, AllByRecursion}
use Rattle.std.specs.List.Sorted.{IsStrictlySortedBy}
use Rattle.std.specs.Ordering.{is_le, ordering_then}
use Rattle.std.specs.declared.cmp.Ordering.{Ordering}
use Rattle.std.specs.declared.cmp.Ordering.TheVariants.{Less, Equal, Greater}
use Rattle.std.proofs.lemmas.Bool.{cases_order, cases_Bool, and_from, and_parts, and_left, and_right, eqb-true, ne_eqb}
use Rattle.std.proofs.lemmas.Bool.Decides.{nat_tests}
use Rattle.std.proofs.lemmas.Map.Keys.{sorted_head, sorted_tail}
use Rattle.ns_tree.specs.Places.{is_below}

-- two bytes compared, by how they lie
nat_cmp-same : (x : ℕ) → nat_cmp x x ≡ Equal
nat_cmp-same x = grind (arith, nat_tests)

nat_cmp-below : (x y : ℕ) → x < y → nat_cmp x y ≡ Less
nat_cmp-below x y h = grind (arith, nat_tests)

nat_cmp-above : (x y : ℕ) → y < x → nat_cmp x y ≡ Greater
nat_cmp-above x y h = grind (arith, nat_tests)

nat_eq-same : (x : ℕ) → nat_eq x x ≡ true
nat_eq-same x = grind (arith, nat_tests)

-- a text that begins with p doesn't stand before p
pub le_from_starts_with : (p q : List ℕ) → starts_with nat_eq q p ≡ true → is_le (slice_cmp nat_cmp p q) ≡ true
le_from_starts_with [] [] h = refl
le_from_starts_with [] (y ∷ q) h = refl
le_from_starts_with (x ∷ p) [] h = cc
le_from_starts_with (x ∷ p) (y ∷ q) h =
    let parts = and_parts (nat_eq x y) (starts_with nat_eq q p) h in
    subst (λ z. is_le (ordering_then (nat_cmp x z) (slice_cmp nat_cmp p q)) ≡ true) (eqb-true x y parts.0)
    (rw (nat_cmp-same x) (le_from_starts_with p q parts.1))

-- the same at first bytes, where the second text's is that of p
past_heads : (a b : ℕ) (r s : Ordering) (u w : Bool) → (is_le r ≡ true → u ≡ false → s ≡ Less → w ≡ false) → is_le (ordering_then (nat_cmp a b) r) ≡ true → (nat_eq a b && u) ≡ false → ordering_then (nat_cmp b a) s ≡ Less → (nat_eq a a && w) ≡ false
past_heads a b r s u w rest from not before =
    elim (cases_order a b) as (λ _. (nat_eq a a && w) ≡ false) [
      | inl same ↦
          rw (nat_eq-same a) (rest
          (rw (nat_cmp-same a) at (subst (λ z. is_le (ordering_then (nat_cmp a z) r) ≡ true) (sym same) from))
          (rw (nat_eq-same a) at (subst (λ z. (nat_eq a z && u) ≡ false) (sym same) not))
          (rw (nat_cmp-same a) at (subst (λ z. ordering_then (nat_cmp z a) s ≡ Less) (sym same) before)))
      | inr (inl l) ↦ let h = rw (nat_cmp-above b a l) at before in cc
      | inr (inr l) ↦ let h = rw (nat_cmp-above a b l) at from in cc
    ]

-- of texts that don't stand before p, no one behind the first that doesn't begin with p begins with it
pub starts_with-past : (p x y : List ℕ) → is_le (slice_cmp nat_cmp p x) ≡ true → starts_with nat_eq x p ≡ false → slice_cmp nat_cmp x y ≡ Less → starts_with nat_eq y p ≡ false
starts_with-past [] x y from not before = cc
starts_with-past (a ∷ p) [] y from not before = cc
starts_with-past (a ∷ p) (b ∷ x) [] from not before = cc
starts_with-past (a ∷ p) (b ∷ x) (c ∷ y) from not before =
    elim (cases_order a c) as (λ _. (nat_eq a c && starts_with nat_eq y p) ≡ false) [
      | inl same ↦
          subst (λ z. (nat_eq a z && starts_with nat_eq y p) ≡ false) same
          (past_heads a b (slice_cmp nat_cmp p x) (slice_cmp nat_cmp x y) (starts_with nat_eq x p) (starts_with nat_eq y p)
          (starts_with-past p x y) from not (subst (λ z. ordering_then (nat_cmp b z) (slice_cmp nat_cmp x y) ≡ Less) (sym same) before))
      | inr apart ↦ and_left (nat_eq a c) _ (ne_eqb a c (λ e. elim apart [ inl l ↦ omega arith | inr l ↦ omega arith ]))
    ]

-- the first elements of a list that pass a test
abbrev pub leading : {X : Type 0} → (X → Bool) → List X → List X
leading p [] = []
leading p (x ∷ xs) = cond (p x) (x ∷ leading p xs) []

filter_none : (p : List ℕ → Bool) (x : List ℕ) (ks : List (List ℕ)) → ((y : List ℕ) → slice_cmp nat_cmp x y ≡ Less → p y ≡ false) → AllByRecursion (λ y. slice_cmp nat_cmp x y ≡ Less) ks → filter p ks ≡ []
filter_none p x [] none all = refl
filter_none p x (k ∷ ks) none all = rw (none k all.0) (filter_none p x ks none all.1)

-- of texts in order, those that begin with p are the first of those that don't stand before it
pub filter-leading : (p : List ℕ) (ks : List (List ℕ)) → IsStrictlySortedBy (slice_cmp nat_cmp) ks
    → filter (λ k. starts_with nat_eq k p) ks ≡ leading (λ k. starts_with nat_eq k p) (filter (λ k. is_le (slice_cmp nat_cmp p k)) ks)
filter-leading p [] sorted = refl
filter-leading p (k ∷ ks) sorted =
    elim (cases_Bool (starts_with nat_eq k p)) as (λ _. filter (λ k. starts_with nat_eq k p) (k ∷ ks) ≡ leading (λ k. starts_with nat_eq k p) (filter (λ k. is_le (slice_cmp nat_cmp p k)) (k ∷ ks))) [
      | inl is ↦ rw (le_from_starts_with p k is, is) (ap (λ ks. k ∷ ks) (filter-leading p ks (sorted_tail (slice_cmp nat_cmp) k ks sorted)))
      | inr not ↦ elim (cases_Bool (is_le (slice_cmp nat_cmp p k))) as (λ _. filter (λ k. starts_with nat_eq k p) (k ∷ ks) ≡ leading (λ k. starts_with nat_eq k p) (filter (λ k. is_le (slice_cmp nat_cmp p k)) (k ∷ ks))) [
        | inl from ↦ rw (from, not) (filter_none (λ k. starts_with nat_eq k p) k ks (λ y. starts_with-past p k y from not) (sorted_head (slice_cmp nat_cmp) k ks sorted))
        | inr before ↦ rw (before, not) (filter-leading p ks (sorted_tail (slice_cmp nat_cmp) k ks sorted))
      ]
    ]

-- a place that is no longer than a directory isn't below it
pub is_below-short : (dir place : List ℕ) → length place ≤ length dir → is_below dir place ≡ false
unfolding is_below
is_below-short [] [] h = refl
is_below-short [] (y ∷ place) h = absurd (omega arith)
is_below-short (x ∷ dir) [] h = refl
is_below-short (x ∷ dir) (y ∷ place) h = and_right (nat_eq x y) _ (is_below-short dir place (omega arith))

and_swap : (a b c : Bool) → (a && (b && c)) ≡ (b && (a && c))
and_swap true b c = refl
and_swap false true c = refl
and_swap false false c = refl

-- a longer one is below it where it begins so, and a slash stands behind
pub is_below-reads : (dir place : List ℕ) → length dir < length place → is_below dir place ≡ (nat_eq (get_or place (length dir) 0) 47 && starts_with nat_eq place dir)
unfolding is_below
is_below-reads [] [] h = absurd (omega arith)
is_below-reads [] (y ∷ place) h = grind (arith, nat_tests)
is_below-reads (x ∷ dir) [] h = absurd (omega arith)
is_below-reads (x ∷ dir) (y ∷ place) h =
    ap (λ b. nat_eq x y && b) (is_below-reads dir place (omega arith))
    ∙ and_swap (nat_eq x y) (nat_eq (get_or place (length dir) 0) 47) (starts_with nat_eq place dir)

-- whether the first element passes a test
abbrev pub first_passes : {X : Type 0} → (X → Bool) → List X → Bool
first_passes p [] = false
first_passes p (x ∷ xs) = p x

abbrev is_filled : {X : Type 0} → List X → Bool
is_filled [] = false
is_filled (x ∷ xs) = true

list_any-is_filled : {X : Type 0} (p : X → Bool) (xs : List X) → list_any p xs ≡ is_filled (filter p xs)
list_any-is_filled p [] = refl
list_any-is_filled p (x ∷ xs) = elim (p x) as (λ b. (b || list_any p xs) ≡ is_filled (cond b (x ∷ filter p xs) (filter p xs))) [
  | true ↦ refl
  | false ↦ list_any-is_filled p xs
]

is_filled-leading : {X : Type 0} (p : X → Bool) (xs : List X) → is_filled (leading p xs) ≡ first_passes p xs
is_filled-leading p [] = refl
is_filled-leading p (x ∷ xs) = elim (p x) as (λ b. is_filled (cond b (x ∷ leading p xs) []) ≡ b) [ true ↦ refl | false ↦ refl ]

-- some element passes where the first of those that may does
pub list_any-first : {X : Type 0} (p : X → Bool) (xs ys : List X) → filter p xs ≡ leading p ys → list_any p xs ≡ first_passes p ys
list_any-first p xs ys h = list_any-is_filled p xs ∙ ap is_filled h ∙ is_filled-leading p ys

-- a place doesn't lie below itself
pub is_below-same : (place : List ℕ) → is_below place place ≡ false
is_below-same place = is_below-short place place (omega arith)

-- what stands in front of a slash is a directory above
pub is_below-take : (place : List ℕ) (i : ℕ) → i < length place → get_or place i 0 ≡ 47 → is_below (take i place) place ≡ true
unfolding is_below
is_below-take [] i h slash = absurd (omega arith)
is_below-take (y ∷ place) zero h slash = let e : y ≡ 47 = slash in grind (arith, nat_tests)
is_below-take (y ∷ place) (suc i) h slash = and_from (nat_eq y y) _ (nat_eq-same y) (is_below-take place i (omega arith) slash)

-- a directory above a place is what stands in front of one of its slashes
pub record IsFront (dir place : List ℕ) : Type 0 where
  pub shorter : length dir < length place
  pub slash : get_or place (length dir) 0 ≡ 47
  pub front : dir ≡ take (length dir) place

pub IsFront-is_below : (dir place : List ℕ) → is_below dir place ≡ true → IsFront dir place
unfolding is_below
IsFront-is_below [] [] h = cc
IsFront-is_below [] (y ∷ place) h =
    let e = eqb-true 47 y (and_parts (nat_eq 47 y) _ h).0 in
    record { shorter = omega arith; slash = sym e; front = refl }
IsFront-is_below (x ∷ dir) [] h = cc
IsFront-is_below (x ∷ dir) (y ∷ place) h =
    let parts = and_parts (nat_eq x y) _ h in
    let e = eqb-true x y parts.0 in
    let rest = IsFront-is_below dir place parts.1 in
    record { shorter = let s = rest.shorter in omega arith; slash = rest.slash; front = λ i. e i ∷ rest.front i }
