-- The first value from a bound on is that of the least key there.
use Rattle.std.proofs.Common.{◌≡◌, List, [], ◌∷◌, Option, Some, None, Bool, true, false, cond, T, refl, sym, ap, subst, ◌∙◌, is_some, slice_get}
use Rattle.std.specs.List.{filter}
use Rattle.std.specs.FinMap.{FinMap, IsAntisymmetric, contains_key, entries, entries_sorted, find, get-entries, is_sorted}
use Rattle.std.specs.FinMap.Entries.{below_all}
use Rattle.std.specs.Cmp.{IsTotalOrder, Equal-is, tied_itself}
use Rattle.std.specs.Ordering.{eq_by_cmp, is_eq, is_le, is_lt}
use Rattle.std.specs.BTreeMap.Range.{range_contains}
use Rattle.std.specs.declared.cmp.Ordering.{Ordering}
use Rattle.std.specs.declared.cmp.Ordering.TheVariants.{Less, Equal, Greater}
use Rattle.std.specs.declared.ops.Bound.{Bound}
use Rattle.std.specs.declared.ops.Bound.TheVariants.{Unbounded}
use Rattle.std.proofs.lemmas.Bool.{true≢false, and_parts}
use Rattle.reserved_map.specs.Order.{first_from}

true_of : (b : Bool) → T b → b ≡ true
true_of true t = refl
true_of false t = absurd t

le_of_lt : (r : Ordering) → is_lt r ≡ true → is_le r ≡ true
le_of_lt Less e = refl
le_of_lt Equal e = absurd (true≢false (sym e))
le_of_lt Greater e = absurd (true≢false (sym e))

-- the first entry that passes a test
abbrev first_of : {K X : Type 0} → (K → Bool) → List (K × X) → Option (K × X)
first_of p es = slice_get (filter (λ e. p e.0) es) 0

-- a key that has a value, passes the test, and stands at or before all others that do
pub record IsLeast {K : Type 0} (R : K → K → Ordering) (has p : K → Bool) (k : K) : Type 0 where
  pub stands : has k ≡ true
  pub passes : p k ≡ true
  pub least : (q : K) → has q ≡ true → p q ≡ true → is_le (R k q) ≡ true

-- what is first says whether there is one
abbrev pub IsFirst : {K X : Type 0} (R : K → K → Ordering) (has p : K → Bool) → Option (K × X) → Type 0
IsFirst {K} R has p None = (q : K) → has q ≡ true → p q ≡ false
IsFirst R has p (Some e) = IsLeast R has p e.0

tied : {K : Type 0} {R : K → K → Ordering} → IsAntisymmetric R → (p q : K) → eq_by_cmp R p q ≡ true → p ≡ q
tied {R = R} same p q e = same p q ((Equal-is (R p q)).0 e)

le_itself : {K : Type 0} {R : K → K → Ordering} → IsTotalOrder R → (k : K) → is_le (R k k) ≡ true
le_itself o k = ap is_le (tied_itself o k)

module _ {K X : Type 0} {R : K → K → Ordering} (o : IsTotalOrder R) (same : IsAntisymmetric R) where
  abbrev has_in : List (K × X) → K → Bool
  has_in es q = is_some (find R q es)

  -- a key in a list is the first, or among the others
  split : {Y : Type 0} (q : K) (e : K × X) (es : List (K × X)) → has_in (e ∷ es) q ≡ true → (q ≡ e.0 → Y) → (has_in es q ≡ true → Y) → Y
  split {Y} q e es h f g = (elim (eq_by_cmp R q e.0) as (λ b. eq_by_cmp R q e.0 ≡ b → is_some (cond b (Some e.1) (find R q es)) ≡ true → Y) [
    | true ↦ λ i k. f (tied same q e.0 i)
    | false ↦ λ i k. g k
  ]) refl h

  here : (e : K × X) (es : List (K × X)) → has_in (e ∷ es) e.0 ≡ true
  here e es = ap (λ b. is_some (cond b (Some e.1) (find R e.0 es))) (ap is_eq (tied_itself o e.0))

  later : (q : K) (e : K × X) (es : List (K × X)) → has_in es q ≡ true → has_in (e ∷ es) q ≡ true
  later q e es h = (elim (eq_by_cmp R q e.0) as (λ b. is_some (cond b (Some e.1) (find R q es)) ≡ true) [ true ↦ refl | false ↦ h ])

  behind : (k q : K) (es : List (K × X)) → below_all R k es ≡ true → has_in es q ≡ true → is_le (R k q) ≡ true
  behind k q [] s h = absurd (true≢false (sym h))
  behind k q (e ∷ es) s h =
      let parts = and_parts (is_lt (R k e.0)) (below_all R k es) s in
      split q e es h (λ i. subst (λ z. is_le (R k z) ≡ true) (sym i) (le_of_lt (R k e.0) parts.0)) (behind k q es parts.1)

  with_entry : (p : K → Bool) (e : K × X) (es : List (K × X)) (b : Bool) → p e.0 ≡ b → below_all R e.0 es ≡ true → IsFirst R (has_in es) p (first_of p es)
      → IsFirst R (has_in (e ∷ es)) p (slice_get (cond b (e ∷ filter (λ x. p x.0) es) (filter (λ x. p x.0) es)) 0)
  with_entry p e es true i s h = record {
    stands = here e es;
    passes = i;
    least = λ q has k. split q e es has (λ z. subst (λ x. is_le (R e.0 x) ≡ true) (sym z) (le_itself o e.0)) (behind e.0 q es s);
  }
  with_entry p e es false i s h = further (first_of p es) h
    where
      further : (f : Option (K × X)) → IsFirst R (has_in es) p f → IsFirst R (has_in (e ∷ es)) p f
      further None w = λ q has. split q e es has (λ z. ap p z ∙ i) (w q)
      further (Some x) w = record {
        stands = later x.0 e es w.stands;
        passes = w.passes;
        least = λ q has k. split q e es has (λ z. absurd (true≢false (sym k ∙ ap p z ∙ i))) (λ has. w.least q has k);
      }

  is_first : (p : K → Bool) (es : List (K × X)) → is_sorted R es ≡ true → IsFirst R (has_in es) p (first_of p es)
  is_first p [] s = λ q h. absurd (true≢false (sym h))
  is_first p (e ∷ es) s =
      let parts = and_parts (below_all R e.0 es) (is_sorted R es) s in
      with_entry p e es (p e.0) refl parts.0 (is_first p es parts.1)

  -- the key that is first from a bound on is the least there
  pub first_from-least : (start : Bound K) (m : FinMap R X) → IsFirst R (contains_key m) (range_contains R start Unbounded) (first_from R start m)
  first_from-least start m =
      subst (λ (has : K → Bool). IsFirst R has (range_contains R start Unbounded) (first_from R start m))
      (λ i q. is_some (sym (get-entries m q) i))
      (is_first (range_contains R start Unbounded) (entries m) (true_of (is_sorted R (entries m)) (entries_sorted m)))
