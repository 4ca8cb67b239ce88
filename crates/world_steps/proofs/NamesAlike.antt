-- Maps with values at the same names have the same names in order.
use Rattle.std.proofs.Common.{◌≡◌, ℕ, true, false, cond, ◌&&◌, List, [], ◌∷◌, T, Option, Some, None, refl, sym, ap, subst, ◌∙◌, nat_cmp}
use Rattle.std.specs.Prelude.{is_some}
use Rattle.std.specs.FinMap.{get, find, from_sorted, entries, entries_sorted, keys, is_sorted, same_map, get-entries, get-from_sorted, entries-from_sorted, nat_cmp-IsAntisymmetric, slice_cmp-IsAntisymmetric}
use Rattle.std.specs.FinMap.Entries.{below_all}
use Rattle.std.specs.Cmp.Lexicographic.{slice_cmp, nat_list_cmp_total}
use Rattle.std.specs.Map.{keys_of}
use Rattle.std.specs.Ordering.{eq_by_cmp, is_lt}
use Rattle.plain_model.specs.Names.{Names}

-- the names alone
abbrev units : {X : Type 0} → List (List ℕ × X) → List (List ℕ × Unit {0})
units [] = []
units (e ∷ es) = (e.0, tt) ∷ units es

keys-units : {X : Type 0} (es : List (List ℕ × X)) → keys_of (units es) ≡ keys_of es
keys-units [] = refl
keys-units (e ∷ es) = ap (λ ks. e.0 ∷ ks) (keys-units es)

below-units : {X : Type 0} (k : List ℕ) (es : List (List ℕ × X)) → below_all (slice_cmp nat_cmp) k (units es) ≡ below_all (slice_cmp nat_cmp) k es
below-units k [] = refl
below-units k (e ∷ es) = ap (λ b. is_lt (slice_cmp nat_cmp k e.0) && b) (below-units k es)

sorted-units : {X : Type 0} (es : List (List ℕ × X)) → is_sorted (slice_cmp nat_cmp) (units es) ≡ is_sorted (slice_cmp nat_cmp) es
sorted-units [] = refl
sorted-units (e ∷ es) = ap (λ b. b && is_sorted (slice_cmp nat_cmp) (units es)) (below-units e.0 es) ∙ ap (λ b. below_all (slice_cmp nat_cmp) e.0 es && b) (sorted-units es)

abbrev unit_of : {X : Type 0} → Option X → Option (Unit {0})
unit_of None = None
unit_of (Some x) = Some tt

find-units : {X : Type 0} (q : List ℕ) (es : List (List ℕ × X)) → find (slice_cmp nat_cmp) q (units es) ≡ unit_of (find (slice_cmp nat_cmp) q es)
find-units q [] = refl
find-units q (e ∷ es) = elim (eq_by_cmp (slice_cmp nat_cmp) q e.0) as (λ b. cond b (Some tt) (find (slice_cmp nat_cmp) q (units es)) ≡ unit_of (cond b (Some e.1) (find (slice_cmp nat_cmp) q es))) [
  | true ↦ refl
  | false ↦ find-units q es
]

unit-alike : {X Y : Type 0} (x : Option X) (y : Option Y) → is_some x ≡ is_some y → unit_of x ≡ unit_of y
unit-alike None None e = refl
unit-alike None (Some y) e = absurd (cc)
unit-alike (Some x) None e = absurd (cc)
unit-alike (Some x) (Some y) e = refl

abbrev named : {X : Type 0} → Names X → Names (Unit {0})
named m = from_sorted (units (entries m))

ordered : {X : Type 0} (m : Names X) → T (is_sorted (slice_cmp nat_cmp) (units (entries m)))
ordered m = subst T (sym (sorted-units (entries m))) (entries_sorted m)

keys-named : {X : Type 0} (m : Names X) → keys (named m) ≡ keys m
keys-named m = ap keys_of (entries-from_sorted (slice_cmp nat_cmp) (units (entries m)) (ordered m)) ∙ keys-units (entries m)

get-named : {X : Type 0} (m : Names X) (q : List ℕ) → get (named m) q ≡ unit_of (get m q)
get-named m q = get-from_sorted (slice_cmp nat_cmp) (units (entries m)) q (ordered m) ∙ find-units q (entries m) ∙ ap unit_of (sym (get-entries m q))

pub keys-alike : {X Y : Type 0} (m : Names X) (n : Names Y) → ((name : List ℕ) → is_some (get m name) ≡ is_some (get n name)) → keys m ≡ keys n
keys-alike m n h =
    sym (keys-named m)
    ∙ ap keys (same_map nat_list_cmp_total (slice_cmp-IsAntisymmetric nat_cmp-IsAntisymmetric) (named m) (named n) (λ q. get-named m q ∙ unit-alike (get m q) (get n q) (h q) ∙ sym (get-named n q)))
    ∙ keys-named n
