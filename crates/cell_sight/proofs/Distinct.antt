-- A list without doubles is no longer than one that has each of its elements.
use Rattle.std.proofs.Common.{◌≡◌, ◌+◌, ◌≤◌, Bool, true, false, cond, not, ◌&&◌, List, [], ◌∷◌, length, inl, inr, refl, sym, ap, ◌∙◌, subst, arith}
use Rattle.std.specs.Prelude.{filter}
use Rattle.std.specs.List.{list_all}
use Rattle.cell_sight.specs.Member.{Member}

module _ {X : Type 0} (eq : X → X → Bool) (own : (x : X) → eq x x ≡ true) where
  -- no two are equal
  abbrev pub Distinct : List X → Type 0
  Distinct [] = Unit {0}
  Distinct (x ∷ xs) = (list_all (λ y. not (eq x y)) xs ≡ true) × Distinct xs

  left : (a b : Bool) → (a && b) ≡ true → a ≡ true
  left true b h = refl
  left false b h = absurd (cc)

  right : (a b : Bool) → (a && b) ≡ true → b ≡ true
  right true b h = h
  right false b h = absurd (cc)

  -- an element of a list all of which pass passes
  of_all : (p : X → Bool) (x : X) (xs : List X) → list_all p xs ≡ true → Member x xs → p x ≡ true
  of_all p x [] h m = absurd m
  of_all p x (y ∷ ys) h (inl e) = ap p (sym e) ∙ left (p y) _ h
  of_all p x (y ∷ ys) h (inr m) = of_all p x ys (right (p y) _ h) m

  others : X → List X → List X
  others x ys = filter (λ y. not (eq x y)) ys

  -- what isn't it stays
  stays : (x z : X) (ys : List X) → not (eq x z) ≡ true → Member z ys → Member z (others x ys)
  unfolding others
  stays x z [] h m = absurd m
  stays x z (y ∷ ys) h (inl e) = let i : not (eq x y) ≡ true = ap (λ w. not (eq x w)) e ∙ h in subst (λ b. Member z (cond b (y ∷ others x ys) (others x ys))) (sym i) (inl e)
  stays x z (y ∷ ys) h (inr m) = let k = stays x z ys h m in elim (not (eq x y)) as (λ b. Member z (cond b (y ∷ others x ys) (others x ys))) [
    | true ↦ inr k
    | false ↦ k
  ]

  at_most : (x : X) (ys : List X) → length (others x ys) ≤ length ys
  unfolding others
  at_most x [] = omega arith
  at_most x (y ∷ ys) = let k = at_most x ys in elim (not (eq x y)) as (λ b. length (cond b (y ∷ others x ys) (others x ys)) ≤ length (y ∷ ys)) [
    | true ↦ omega arith
    | false ↦ omega arith
  ]

  -- and it goes
  fewer : (x : X) (ys : List X) → Member x ys → length (others x ys) + 1 ≤ length ys
  unfolding others
  fewer x [] m = absurd m
  fewer x (y ∷ ys) (inl e) =
      let i : not (eq x y) ≡ false = ap (λ w. not (eq x w)) e ∙ ap not (own x) in
      let k = at_most x ys in
      subst (λ b. length (cond b (y ∷ others x ys) (others x ys)) + 1 ≤ length (y ∷ ys)) (sym i) (omega arith)
  fewer x (y ∷ ys) (inr m) = let k = fewer x ys m in elim (not (eq x y)) as (λ b. length (cond b (y ∷ others x ys) (others x ys)) + 1 ≤ length (y ∷ ys)) [
    | true ↦ omega arith
    | false ↦ omega arith
  ]

  pub no_longer : (xs ys : List X) → Distinct xs → ((x : X) → Member x xs → Member x ys) → length xs ≤ length ys
  no_longer [] ys d h = omega arith
  no_longer (x ∷ xs) ys d h =
      let k = no_longer xs (others x ys) d.1 (λ z m. stays x z ys (of_all (λ y. not (eq x y)) z xs d.0 m) (h z (inr m))) in
      let f = fewer x ys (h x (inl refl)) in omega arith
