-- Elements of filters and of lists put in order.
use Rattle.std.proofs.Common.{◌≡◌, ◌⊎◌, Bool, true, false, cond, ◌&&◌, ◌||◌, List, [], ◌∷◌, inl, inr, refl, sym, ap, ◌∙◌, subst}
use Rattle.std.specs.Prelude.{filter}
use Rattle.std.specs.List.{list_any, list_all}
use Rattle.std.specs.Ordering.{is_gt}
use Rattle.hb_cell.specs.declared.cell.Cell.{Cell}
use Rattle.hb_cell.specs.Order.{key_cmp}
use Rattle.cell_sight.specs.Member.{Member}
use Rattle.cell_sight.specs.Same.{in_place, sorted}
use Rattle.cell_sight.proofs.Truths.{left, right}

module _ {X : Type 0} where
  pub of_filter : (p : X → Bool) (c : X) (xs : List X) → Member c (filter p xs) → Member c xs × (p c ≡ true)
  of_filter p c [] m = absurd m
  of_filter p c (x ∷ xs) m = by (λ k. of_filter p c xs k) (p x) refl m
    where
      by : (Member c (filter p xs) → Member c xs × (p c ≡ true)) → (b : Bool) → p x ≡ b → Member c (cond b (x ∷ filter p xs) (filter p xs)) → Member c (x ∷ xs) × (p c ≡ true)
      by rest true e (inl i) = (inl i, ap p (sym i) ∙ e)
      by rest true e (inr m) = let k = rest m in (inr k.0, k.1)
      by rest false e m = let k = rest m in (inr k.0, k.1)

  pub in_filter : (p : X → Bool) (c : X) (xs : List X) → Member c xs → p c ≡ true → Member c (filter p xs)
  in_filter p c [] m h = absurd m
  in_filter p c (x ∷ xs) (inl e) h = subst (λ b. Member c (cond b (x ∷ filter p xs) (filter p xs))) (sym (ap p e ∙ h)) (inl e)
  in_filter p c (x ∷ xs) (inr m) h = let k = in_filter p c xs m h in elim (p x) as (λ b. Member c (cond b (x ∷ filter p xs) (filter p xs))) [ true ↦ inr k | false ↦ k ]

  pub of_all : (p : X → Bool) (x : X) (xs : List X) → list_all p xs ≡ true → Member x xs → p x ≡ true
  of_all p x [] h m = absurd m
  of_all p x (y ∷ ys) h (inl e) = ap p (sym e) ∙ left (p y) _ h
  of_all p x (y ∷ ys) h (inr m) = of_all p x ys (right (p y) _ h) m

  pub all_by : (p : X → Bool) (xs : List X) → ((x : X) → Member x xs → p x ≡ true) → list_all p xs ≡ true
  all_by p [] h = refl
  all_by p (x ∷ xs) h = ap (λ b. b && list_all p xs) (h x (inl refl)) ∙ all_by p xs (λ y m. h y (inr m))

pub of_placed : (c d : Cell) (ds : List Cell) → Member c (in_place d ds) → (d ≡ c) ⊎ Member c ds
of_placed c d [] m = m
of_placed c d (e ∷ es) m = by (λ k. of_placed c d es k) (is_gt (key_cmp d e)) m
  where
    by : (Member c (in_place d es) → (d ≡ c) ⊎ Member c es) → (b : Bool) → Member c (cond b (e ∷ in_place d es) (d ∷ e ∷ es)) → (d ≡ c) ⊎ Member c (e ∷ es)
    by rest true (inl i) = inr (inl i)
    by rest true (inr m) = elim (rest m) [ inl i ↦ inl i | inr k ↦ inr (inr k) ]
    by rest false m = m

pub in_placed : (c d : Cell) (ds : List Cell) → (d ≡ c) ⊎ Member c ds → Member c (in_place d ds)
in_placed c d [] m = m
in_placed c d (e ∷ es) m = elim (is_gt (key_cmp d e)) as (λ b. Member c (cond b (e ∷ in_place d es) (d ∷ e ∷ es))) [
  | true ↦ elim m [ inl i ↦ inr (in_placed c d es (inl i)) | inr k ↦ elim k [ inl i ↦ inl i | inr n ↦ inr (in_placed c d es (inr n)) ] ]
  | false ↦ m
]

pub of_sorted : (c : Cell) (xs : List Cell) → Member c (sorted xs) → Member c xs
of_sorted c [] m = m
of_sorted c (x ∷ xs) m = elim (of_placed c x (sorted xs) m) [ inl e ↦ inl e | inr k ↦ inr (of_sorted c xs k) ]

pub in_sorted : (c : Cell) (xs : List Cell) → Member c xs → Member c (sorted xs)
in_sorted c [] m = m
in_sorted c (x ∷ xs) (inl e) = in_placed c x (sorted xs) (inl e)
in_sorted c (x ∷ xs) (inr m) = in_placed c x (sorted xs) (inr (in_sorted c xs m))

swap_or : (a b c : Bool) → (a || (b || c)) ≡ (b || (a || c))
swap_or true true c = refl
swap_or true false c = refl
swap_or false b c = refl

any-placed : (p : Cell → Bool) (c : Cell) (ds : List Cell) → list_any p (in_place c ds) ≡ (p c || list_any p ds)
any-placed p c [] = refl
any-placed p c (d ∷ ds) = let i = any-placed p c ds in elim (is_gt (key_cmp c d)) as (λ b. list_any p (cond b (d ∷ in_place c ds) (c ∷ d ∷ ds)) ≡ (p c || (p d || list_any p ds))) [
  | true ↦ ap (λ b. p d || b) i ∙ swap_or (p d) (p c) (list_any p ds)
  | false ↦ refl
]

pub any-sorted : (p : Cell → Bool) (xs : List Cell) → list_any p (sorted xs) ≡ list_any p xs
any-sorted p [] = refl
any-sorted p (x ∷ xs) = any-placed p x (sorted xs) ∙ ap (λ b. p x || b) (any-sorted p xs)

pub all-sorted : (p : Cell → Bool) (xs : List Cell) → list_all p xs ≡ true → list_all p (sorted xs) ≡ true
all-sorted p xs h = all_by p (sorted xs) (λ x m. of_all p x xs h (of_sorted x xs m))
