-- Sums over activities, and lengths of what changes make.
use Rattle.std.proofs.Common.{◌≡◌, ◌≤◌, ◌+◌, ℕ, Bool, true, false, cond, List, [], ◌∷◌, Option, Some, None, refl, sym, ap, subst, inl, inr, arith}
use Rattle.std.specs.Prelude.{filter, length, sum_by}
use Rattle.std.specs.Ordering.{is_gt}
use Rattle.std.specs.FinMap.{get, remove}
use Rattle.std.proofs.lemmas.List.Sums.{sum_by-cons}
use Rattle.cell_sight.specs.Member.{Member}
use Rattle.hb_cell.specs.Order.{same_bytes}
use Rattle.hb_records.specs.declared.region_info.RegionInfo.{RegionInfo}
use Rattle.region_set.specs.RegionLine.{region_cmp}
use Rattle.plain_model.specs.declared.parts.PlainTable.{PlainTable}
use Rattle.plain_model.specs.Found.{regions_in}
use Rattle.plain_model.specs.Names.{Names, change, change_found}
use Rattle.plain_model.specs.TableEvents.{with_region}
use Rattle.core_sound.proofs.TablesKept.{put_this, taken_at}

-- ---- sums

pub sum-less : {X : Type 0} (f g : X → ℕ) (xs : List X) → ((x : X) → Member x xs → f x ≤ g x) → sum_by f xs ≤ sum_by g xs
sum-less f g [] h = omega arith
sum-less f g (x ∷ xs) h =
    let a = sum_by-cons f x xs in
    let b = sum_by-cons g x xs in
    let k = h x (inl refl) in
    let r = sum-less f g xs (λ y m. h y (inr m)) in omega (arith, a, b, k, r)

-- one of them is less by two
pub sum-two : {X : Type 0} (f g : X → ℕ) (xs : List X) (x : X) → Member x xs → f x + 2 ≤ g x → ((y : X) → Member y xs → f y ≤ g y) → sum_by f xs + 2 ≤ sum_by g xs
sum-two f g [] x m e h = absurd m
sum-two f g (y ∷ ys) x (inl i) e h =
    let a = sum_by-cons f y ys in
    let b = sum_by-cons g y ys in
    let k = subst (λ z. f z + 2 ≤ g z) (sym i) e in
    let r = sum-less f g ys (λ z n. h z (inr n)) in omega (arith, a, b, k, r)
sum-two f g (y ∷ ys) x (inr m) e h =
    let a = sum_by-cons f y ys in
    let b = sum_by-cons g y ys in
    let k = h y (inl refl) in
    let r = sum-two f g ys x m e (λ z n. h z (inr n)) in omega (arith, a, b, k, r)

pub sum-none : {X : Type 0} (f : X → ℕ) (xs : List X) → ((x : X) → Member x xs → f x ≡ 0) → sum_by f xs ≡ 0
sum-none f [] h = refl
sum-none f (x ∷ xs) h =
    let a = sum_by-cons f x xs in
    let k = h x (inl refl) in
    let r = sum-none f xs (λ y m. h y (inr m)) in omega (arith, a, k, r)

-- fewer of them
pub sum-filter : {X : Type 0} (f g : X → ℕ) (p : X → Bool) (xs : List X) → ((x : X) → Member x (filter p xs) → f x ≤ g x) → sum_by f (filter p xs) ≤ sum_by g xs
sum-filter f g p [] h = omega arith
sum-filter {X} f g p (x ∷ xs) h = (elim (p x) as (λ b. ((y : X) → Member y (cond b (x ∷ filter p xs) (filter p xs)) → f y ≤ g y) → sum_by f (cond b (x ∷ filter p xs) (filter p xs)) ≤ sum_by g (x ∷ xs)) [
  | true ↦ λ k.
      let a = sum_by-cons f x (filter p xs) in
      let b = sum_by-cons g x xs in
      let e = k x (inl refl) in
      let r = sum-filter f g p xs (λ y m. k y (inr m)) in omega (arith, a, b, e, r)
  | false ↦ λ k.
      let b = sum_by-cons g x xs in
      let r = sum-filter f g p xs k in omega (arith, b, r)
]) h

-- ---- lengths

pub length-put : (i : RegionInfo) (rs : List (RegionInfo × Bool)) → length (with_region i rs) ≡ length rs + 1
length-put i [] = omega arith
length-put i (s ∷ ss) = elim (is_gt (region_cmp i s.0)) as (λ b. length (cond b (s ∷ with_region i ss) ((i, false) ∷ s ∷ ss)) ≡ length (s ∷ ss) + 1) [
  | true ↦ (let k = length-put i ss in omega (arith, k))
  | false ↦ omega arith
]

pub length-fewer : {X : Type 0} (p : X → Bool) (xs : List X) → length (filter p xs) ≤ length xs
length-fewer p [] = omega arith
length-fewer p (x ∷ xs) = let k = length-fewer p xs in elim (p x) as (λ b. length (cond b (x ∷ filter p xs) (filter p xs)) ≤ length (x ∷ xs)) [
  | true ↦ omega (arith, k)
  | false ↦ omega (arith, k)
]

-- ---- the regions of a table after a change

abbrev pub size : Names PlainTable → List ℕ → ℕ
size tables t = length (regions_in (get tables t))

pub size-changed : (u : List ℕ) (f : PlainTable → PlainTable) (n : ℕ) (tables : Names PlainTable) → ((x : PlainTable) → length (f x).regions ≤ length x.regions + n) → size (change u f tables) u ≤ size tables u + n
size-changed u f n tables h = by_found (get tables u) refl
  where
    by_found : (o : Option PlainTable) → get tables u ≡ o → length (regions_in (get (change_found u f tables o) u)) ≤ length (regions_in o) + n
    by_found None e = let z : length (regions_in (get tables u)) ≡ 0 = ap (λ (o : Option PlainTable). length (regions_in o)) e in omega (arith, z)
    by_found (Some x) e =
        let z : length (regions_in (get (change_found u f tables (Some x)) u)) ≡ length (f x).regions = ap (λ (o : Option PlainTable). length (regions_in o)) (put_this tables u (f x)) in
        let k = h x in omega (arith, z, k)

pub size-taken : (tables : Names PlainTable) (u t : List ℕ) → size (remove tables u) t ≤ size tables t
size-taken tables u t = subst (λ o. length (regions_in o) ≤ size tables t) (sym (taken_at tables u t)) (elim (same_bytes t u) as (λ b. length (regions_in (cond b None (get tables t))) ≤ size tables t) [ true ↦ omega arith | false ↦ omega arith ])
