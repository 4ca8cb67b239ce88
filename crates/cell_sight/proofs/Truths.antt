-- What tests say together, and what a list has where a test passes on some of it.
use Rattle.std.proofs.Common.{◌≡◌, Bool, true, false, List, [], ◌∷◌, refl, sym, ap, ◌∙◌, inl, inr}
use Rattle.std.specs.Prelude.{◌&&◌, ◌||◌, not}
use Rattle.std.specs.List.{list_any}
use Rattle.cell_sight.specs.Member.{Member}

pub left : (a b : Bool) → (a && b) ≡ true → a ≡ true
left true b h = refl
left false b h = absurd (cc)

pub right : (a b : Bool) → (a && b) ≡ true → b ≡ true
right true b h = h
right false b h = absurd (cc)

pub both : (a b : Bool) → a ≡ true → b ≡ true → (a && b) ≡ true
both a b h k = ap (λ x. x && b) h ∙ k

pub turn : (b : Bool) → not b ≡ true → b ≡ false
turn true h = absurd (cc)
turn false h = refl

pub turned : (b : Bool) → not b ≡ false → b ≡ true
turned true h = refl
turned false h = absurd (cc)

pub never : (b : Bool) → (b ≡ true → ⊥) → b ≡ false
never true h = absurd (h refl)
never false h = refl

pub equal : (a b : Bool) → (a ≡ true → b ≡ true) → (b ≡ true → a ≡ true) → a ≡ b
equal true b h k = sym (h refl)
equal false true h k = k refl
equal false false h k = refl

pub any_some : {X : Type 0} (f : X → Bool) (xs : List X) → list_any f xs ≡ true → (x : X) × Member x xs × (f x ≡ true)
any_some f [] h = absurd (cc)
any_some f (x ∷ xs) h = by (λ k. any_some f xs k) (f x) refl h
  where
    by : (list_any f xs ≡ true → (x : _) × Member x xs × (f x ≡ true)) → (b : Bool) → f x ≡ b → (b || list_any f xs) ≡ true
        → (y : _) × Member y (x ∷ xs) × (f y ≡ true)
    by rest true e h = (x, inl refl, e)
    by rest false e h = let k = rest h in (k.0, inr k.1, k.2)

pub some_any : {X : Type 0} (f : X → Bool) (xs : List X) (x : X) → Member x xs → f x ≡ true → list_any f xs ≡ true
some_any f [] x m h = absurd m
some_any f (y ∷ ys) x (inl e) h = ap (λ b. b || list_any f ys) (ap f e ∙ h)
some_any f (y ∷ ys) x (inr m) h = ap (λ b. f y || b) (some_any f ys x m h) ∙ (elim (f y) as (λ b. (b || true) ≡ true) [ true ↦ refl | false ↦ refl ])
