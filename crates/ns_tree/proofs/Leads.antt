-- A place leads to those at or below it: the same by its first bytes, and what follows.
use Rattle.std.proofs.Common.{◌≡◌, ℕ, ◌<◌, ◌≤◌, List, [], ◌∷◌, ◌++◌, Bool, true, false, ◌&&◌, ◌||◌, ◌⊎◌, refl, sym, ap, ◌∙◌, subst, nat_eq, length, drop, arith, inl, inr}
use Rattle.std.specs.Cmp.Lexicographic.{pointwise, bytes_decides}
use Rattle.std.proofs.lemmas.Bool.{and_from, and_parts, or_cases, or_right, eqb-true}
use Rattle.std.proofs.lemmas.Bool.Decides.{nat_tests}
use Rattle.ns_tree.specs.Places.{is_below, is_within, target_of}
use Rattle.ns_tree.proofs.Below.{IsFront-is_below}

-- `is_within`, byte by byte
abbrev leads : List ℕ → List ℕ → Bool
leads [] [] = true
leads [] (y ∷ place) = nat_eq 47 y
leads (x ∷ dir) [] = false
leads (x ∷ dir) (y ∷ place) = nat_eq x y && leads dir place

and_over_or : (a b c : Bool) → ((a && b) || (a && c)) ≡ (a && (b || c))
and_over_or true b c = refl
and_over_or false b c = refl

leads-is_within : (dir place : List ℕ) → is_within dir place ≡ leads dir place
unfolding is_below
leads-is_within [] [] = refl
leads-is_within [] (y ∷ place) = grind (arith, nat_tests)
leads-is_within (x ∷ dir) [] = refl
leads-is_within (x ∷ dir) (y ∷ place) = and_over_or (nat_eq x y) (pointwise nat_eq dir place) (is_below dir place) ∙ ap (λ b. nat_eq x y && b) (leads-is_within dir place)

leads_on : (a b c : List ℕ) → leads a b ≡ true → leads b c ≡ true → leads a c ≡ true
leads_on [] [] c f g = g
leads_on [] (y ∷ b) [] f g = cc
leads_on [] (y ∷ b) (z ∷ c) f g = subst (λ n. nat_eq 47 n ≡ true) (eqb-true y z (and_parts (nat_eq y z) (leads b c) g).0) f
leads_on (x ∷ a) [] c f g = cc
leads_on (x ∷ a) (y ∷ b) [] f g = cc
leads_on (x ∷ a) (y ∷ b) (z ∷ c) f g =
    let one = and_parts (nat_eq x y) (leads a b) f in
    let two = and_parts (nat_eq y z) (leads b c) g in
    and_from (nat_eq x z) (leads a c) (subst (λ n. nat_eq x n ≡ true) (eqb-true y z two.0) one.0) (leads_on a b c one.1 two.1)

leads_one : (a b c : List ℕ) → leads a c ≡ true → leads b c ≡ true → (leads a b ≡ true) ⊎ (leads b a ≡ true)
leads_one [] [] c f g = inl refl
leads_one [] (y ∷ b) [] f g = cc
leads_one [] (y ∷ b) (z ∷ c) f g = inl (subst (λ n. nat_eq 47 n ≡ true) (sym (eqb-true y z (and_parts (nat_eq y z) (leads b c) g).0)) f)
leads_one (x ∷ a) [] [] f g = cc
leads_one (x ∷ a) [] (z ∷ c) f g = inr (subst (λ n. nat_eq 47 n ≡ true) (sym (eqb-true x z (and_parts (nat_eq x z) (leads a c) f).0)) g)
leads_one (x ∷ a) (y ∷ b) [] f g = cc
leads_one (x ∷ a) (y ∷ b) (z ∷ c) f g =
    let one = and_parts (nat_eq x z) (leads a c) f in
    let two = and_parts (nat_eq y z) (leads b c) g in
    let same : x ≡ y = eqb-true x z one.0 ∙ sym (eqb-true y z two.0) in
    let there : nat_eq x y ≡ true = grind (arith, nat_tests) in
    let back : nat_eq y x ≡ true = grind (arith, nat_tests) in
    elim (leads_one a b c one.1 two.1) as (λ _. (leads (x ∷ a) (y ∷ b) ≡ true) ⊎ (leads (y ∷ b) (x ∷ a) ≡ true)) [
      | inl h ↦ inl (and_from (nat_eq x y) (leads a b) there h)
      | inr h ↦ inr (and_from (nat_eq y x) (leads b a) back h)
    ]

-- what lies within a place that lies within another lies within that
pub is_within-on : (a b c : List ℕ) → is_within a b ≡ true → is_within b c ≡ true → is_within a c ≡ true
is_within-on a b c f g = leads-is_within a c ∙ leads_on a b c (sym (leads-is_within a b) ∙ f) (sym (leads-is_within b c) ∙ g)

-- of two places that a third lies within, one lies within the other
pub is_within-one : (a b c : List ℕ) → is_within a c ≡ true → is_within b c ≡ true → (is_within a b ≡ true) ⊎ (is_within b a ≡ true)
is_within-one a b c f g = elim (leads_one a b c (sym (leads-is_within a c) ∙ f) (sym (leads-is_within b c) ∙ g)) as (λ _. (is_within a b ≡ true) ⊎ (is_within b a ≡ true)) [
  | inl h ↦ inl (leads-is_within a b ∙ h)
  | inr h ↦ inr (leads-is_within b a ∙ h)
]

-- a longer place within another lies below it
pub is_below-longer : (a b : List ℕ) → is_within a b ≡ true → length a < length b → is_below a b ≡ true
is_below-longer a b h longer = elim (or_cases (pointwise nat_eq a b) (is_below a b) h) as (λ _. is_below a b ≡ true) [
  | inl same ↦ let long = ap length ((bytes_decides a b).0 same) in absurd (omega arith)
  | inr below ↦ below
]

pub is_below-on : (a b c : List ℕ) → is_within a b ≡ true → is_below b c ≡ true → is_below a c ≡ true
is_below-on a b c f g =
    let longer = (IsFront-is_below b c g).shorter in
    let shorter : length a ≤ length b = elim (or_cases (pointwise nat_eq a b) (is_below a b) f) as (λ _. length a ≤ length b) [
      | inl same ↦ let long = ap length ((bytes_decides a b).0 same) in omega arith
      | inr below ↦ let less = (IsFront-is_below a b below).shorter in omega arith
    ] in
    is_below-longer a c (is_within-on a b c f (or_right (pointwise nat_eq b c) (is_below b c) g)) (omega arith)

-- where a place lies within another, it is that one and what stands behind
leads-drop : (a b : List ℕ) → leads a b ≡ true → a ++ drop (length a) b ≡ b
leads-drop [] b h = refl
leads-drop (x ∷ a) [] h = cc
leads-drop (x ∷ a) (y ∷ b) h =
    let parts = and_parts (nat_eq x y) (leads a b) h in
    let first = eqb-true x y parts.0 in
    let rest = leads-drop a b parts.1 in
    λ i. first i ∷ rest i

pub is_within-drop : (a b : List ℕ) → is_within a b ≡ true → a ++ drop (length a) b ≡ b
is_within-drop a b h = leads-drop a b (sym (leads-is_within a b) ∙ h)

-- both places behind the same front lie to each other as their rests
pub is_below-append : (p a b : List ℕ) → is_below (p ++ a) (p ++ b) ≡ is_below a b
unfolding is_below
is_below-append [] a b = refl
is_below-append (x ∷ p) a b = let same : nat_eq x x ≡ true = grind (arith, nat_tests) in ap (λ c. c && is_below (p ++ a) (p ++ b)) same ∙ is_below-append p a b

leads-append : (p a b : List ℕ) → leads (p ++ a) (p ++ b) ≡ leads a b
leads-append [] a b = refl
leads-append (x ∷ p) a b = let same : nat_eq x x ≡ true = grind (arith, nat_tests) in ap (λ c. c && leads (p ++ a) (p ++ b)) same ∙ leads-append p a b

leads-end : (p b : List ℕ) → leads p (p ++ b) ≡ leads [] b
leads-end [] b = refl
leads-end (x ∷ p) b = let same : nat_eq x x ≡ true = grind (arith, nat_tests) in ap (λ c. c && leads p (p ++ b)) same ∙ leads-end p b

-- a target lies within `to` as its source does within `from`
pub is_within-target : (from to place : List ℕ) → is_within from place ≡ true → is_within to (target_of from to place) ≡ true
is_within-target from to place h =
    leads-is_within to (target_of from to place) ∙ leads-end to (drop (length from) place) ∙ sym (leads-end from (drop (length from) place))
    ∙ ap (leads from) (is_within-drop from place h) ∙ sym (leads-is_within from place) ∙ h

drop_front : (p a : List ℕ) → drop (length p) (p ++ a) ≡ a
drop_front [] a = refl
drop_front (x ∷ p) a = drop_front p a

-- the way back
pub target_of-target_of : (from to place : List ℕ) → is_within from place ≡ true → target_of to from (target_of from to place) ≡ place
target_of-target_of from to place h = ap (λ rest. from ++ rest) (drop_front to (drop (length from) place)) ∙ is_within-drop from place h

rest_cases : (rest : List ℕ) → leads [] rest ≡ true → (rest ≡ []) ⊎ ((back : List ℕ) × (rest ≡ 47 ∷ back))
rest_cases [] h = inl refl
rest_cases (y ∷ back) h = let same = eqb-true 47 y h in inr (back, ap (λ z. z ∷ back) (sym same))

-- behind a place that another lies within stands nothing, or a slash and the rest
pub drop-is_within : (a b : List ℕ) → is_within a b ≡ true → (drop (length a) b ≡ []) ⊎ ((back : List ℕ) × (drop (length a) b ≡ 47 ∷ back))
drop-is_within a b h = rest_cases (drop (length a) b) (sym (leads-end a (drop (length a) b)) ∙ ap (leads a) (is_within-drop a b h) ∙ sym (leads-is_within a b) ∙ h)
