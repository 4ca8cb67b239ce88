-- What holds of each two of a list.
use Rattle.std.proofs.Common.{◌≡◌, ◌≢◌, ◌≤◌, ◌+◌, Bool, true, false, cond, List, [], ◌∷◌, ◌++◌, refl, sym, ap, ◌∙◌, subst, inl, inr, arith}
use Rattle.std.specs.Prelude.{count_by, filter, map}
use Rattle.std.specs.List.{AllZip, AllByRecursion}
use Rattle.cell_sight.specs.Member.{Member}
use Rattle.cell_sight.proofs.Counts.{count-cons}
use Rattle.cell_sight.proofs.Members.{of_filter}
use Rattle.core_sound.proofs.Sources.{each-member, map-member}
use Rattle.core_opens.specs.Fits.{EachTwo}

pub each-from : {X : Type 0} (P : X → Type 0) (xs : List X) → ((x : X) → Member x xs → P x) → AllByRecursion P xs
each-from P [] h = tt
each-from P (x ∷ xs) h = (h x (inl refl), each-from P xs (λ y m. h y (inr m)))

pub two-append : {X : Type 0} (R : X → X → Type 0) (xs ys : List X) → EachTwo R xs → EachTwo R ys → ((x y : X) → Member x xs → Member y ys → R x y) → EachTwo R (xs ++ ys)
two-append R [] ys h k f = k
two-append {X} R (x ∷ xs) ys h k f = (joined (R x) xs ys h.0 (λ y m. f x y (inl refl) m), two-append R xs ys h.1 k (λ z y m n. f z y (inr m) n))
  where
    joined : (P : X → Type 0) (us vs : List X) → AllByRecursion P us → ((v : X) → Member v vs → P v) → AllByRecursion P (us ++ vs)
    joined P [] vs a b = each-from P vs b
    joined P (u ∷ us) vs a b = (a.0, joined P us vs a.1 b)

pub two-filter : {X : Type 0} (R : X → X → Type 0) (p : X → Bool) (xs : List X) → EachTwo R xs → EachTwo R (filter p xs)
two-filter R p [] h = tt
two-filter R p (x ∷ xs) h = elim (p x) as (λ b. EachTwo R (cond b (x ∷ filter p xs) (filter p xs))) [
  | true ↦ (each-from (R x) (filter p xs) (λ y m. each-member (R x) xs y h.0 (of_filter p y xs m).0), two-filter R p xs h.1)
  | false ↦ two-filter R p xs h.1
]

pub two-map : {X Y : Type 0} (R : X → X → Type 0) (S : Y → Y → Type 0) (f : X → Y) (xs : List X) → ((x y : X) → Member x xs → Member y xs → R x y → S (f x) (f y)) → EachTwo R xs → EachTwo S (map f xs)
two-map R S f [] g h = tt
two-map R S f (x ∷ xs) g h = (
  each-from (S (f x)) (map f xs) (λ z m. let v = map-member f z xs m in subst (S (f x)) v.2 (g x v.0 (inl refl) (inr v.1) (each-member (R x) xs v.0 h.0 v.1))),
  two-map R S f xs (λ y z m n. g y z (inr m) (inr n)) h.1,
)

pub two-zip : {X Y : Type 0} (P : X → Y → Type 0) (R : X → X → Type 0) (S : Y → Y → Type 0) (xs : List X) (ys : List Y) → ((x z : X) (y u : Y) → R x z → P x y → P z u → S y u) → AllZip P xs ys → EachTwo R xs → EachTwo S ys
two-zip P R S [] [] g z h = tt
two-zip {X} {Y} P R S (x ∷ xs) (y ∷ ys) g z h = (others xs ys h.0 z.1, two-zip P R S xs ys g z.1 h.1)
  where
    others : (us : List X) (vs : List Y) → AllByRecursion (R x) us → AllZip P us vs → AllByRecursion (S y) vs
    others [] [] a b = tt
    others (u ∷ us) (v ∷ vs) a b = (g x u y v a.0 z.0 b.0, others us vs a.1 b.1)
    others [] (v ∷ vs) a b = absurd b
    others (u ∷ us) [] a b = absurd b
two-zip P R S [] (y ∷ ys) g z h = absurd z
two-zip P R S (x ∷ xs) [] g z h = absurd z

-- where nothing is an element, each two are as you like
pub two-none : {X : Type 0} (R : X → X → Type 0) (xs : List X) → ((x : X) → Member x xs → ⊥) → EachTwo R xs
two-none R [] h = tt
two-none R (x ∷ xs) h = absurd (h x (inl refl))

-- what stands once differs from all others
pub two-once : {X : Type 0} (same : X → X → Bool) (xs : List X) → ((x : X) → same x x ≡ true) → ((x : X) → count_by (same x) xs ≤ 1) → EachTwo (λ x y. x ≢ y) xs
two-once same [] s h = tt
two-once {X} same (x ∷ xs) s h = (each-from (λ y. x ≢ y) xs (λ y m e. again y m e), two-once same xs s (λ y. fewer y))
  where
    there : (ys : List X) (p : X → Bool) (y : X) → p y ≡ true → Member y ys → 1 ≤ count_by p ys
    there [] p y e m = absurd m
    there (z ∷ ys) p y e (inl i) = let c = count-cons p z ys ∙ ap (λ b. cond b 1 0 + count_by p ys) (ap p i ∙ e) in omega (arith, c)
    there (z ∷ ys) p y e (inr n) = let c = count-cons p z ys in let k = there ys p y e n in omega (arith, c, k)

    again : (y : X) → Member y xs → x ≡ y → ⊥
    again y m e =
        let c = count-cons (same x) x xs ∙ ap (λ b. cond b 1 0 + count_by (same x) xs) (s x) in
        let k = there xs (same x) y (ap (same x) (sym e) ∙ s x) m in
        absurd (omega (arith, c, k, h x))

    fewer : (y : X) → count_by (same y) xs ≤ 1
    fewer y = let c = count-cons (same y) x xs in omega (arith, c, h y)
