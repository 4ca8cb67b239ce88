-- The places that have a value, in order.
use Rattle.std.proofs.Common.{◌≡◌, List, [], ◌∷◌, Option, Some, None, Bool, true, false, cond, refl, sym, ap, ◌∙◌, slice_get, length, arith}
use Rattle.std.specs.Option.{option_flatten}
use Rattle.std.specs.List.{AllByRecursion, filter}
use Rattle.std.specs.List.Sorted.{IsStrictlySortedBy}
use Rattle.std.specs.FinMap.{IsAntisymmetric, empty, entries, entries-insert, len-entries, len-empty}
use Rattle.std.specs.FinMap.Entries.{put, by_order}
use Rattle.std.specs.Cmp.{IsTotalOrder}
use Rattle.std.specs.Ordering.{is_eq}
use Rattle.std.specs.Map.{keys_of, lookup}
use Rattle.std.specs.BTreeMap.{is_at}
use Rattle.std.specs.BTreeMap.Range.{entries_between, range_contains}
use Rattle.std.specs.declared.cmp.Ordering.{Ordering}
use Rattle.std.specs.declared.cmp.Ordering.TheVariants.{Less}
use Rattle.std.specs.declared.ops.Bound.{Bound}
use Rattle.std.specs.declared.ops.Bound.TheVariants.{Unbounded}
use Rattle.std.proofs.lemmas.Map.Keys.{sorted_head, sorted_tail}
use Rattle.reserved_map.specs.Changes.{remove-absent}
use Rattle.reserved_map.specs.Order.{first_from}
use Rattle.reserved_map.specs.Values.{values_at}
use Rattle.reserved_map.proofs.Values.{get-values_at}

-- the places that have a value
abbrev pub with_value : {K X : Type 0} → K → Option X → List (K × X) → List (K × X)
with_value key None es = es
with_value key (Some value) es = (key, value) ∷ es

abbrev pub valued : {K X : Type 0} → List (K × Option X) → List (K × X)
valued [] = []
valued (e ∷ es) = with_value e.0 e.1 (valued es)

filter-with_value : {K X : Type 0} (p : K → Bool) (k : K) (v : Option X) (es : List (K × X)) → filter (λ e. p e.0) (with_value k v es) ≡ cond (p k) (with_value k v (filter (λ e. p e.0) es)) (filter (λ e. p e.0) es)
filter-with_value p k None es = elim (p k) as (λ b. filter (λ e. p e.0) es ≡ cond b (filter (λ e. p e.0) es) (filter (λ e. p e.0) es)) [ true ↦ refl | false ↦ refl ]
filter-with_value p k (Some v) es = refl

valued-cond : {K X : Type 0} (b : Bool) (e : K × Option X) (es fs : List (K × Option X)) → valued (cond b (e ∷ es) fs) ≡ cond b (with_value e.0 e.1 (valued es)) (valued fs)
valued-cond true e es fs = refl
valued-cond false e es fs = refl

-- a filter by the keys
pub valued-filter : {K X : Type 0} (p : K → Bool) (es : List (K × Option X)) → valued (filter (λ e. p e.0) es) ≡ filter (λ e. p e.0) (valued es)
valued-filter p [] = refl
valued-filter p (e ∷ es) =
    valued-cond (p e.0) e (filter (λ e. p e.0) es) (filter (λ e. p e.0) es)
    ∙ ap (λ fs. cond (p e.0) (with_value e.0 e.1 fs) fs) (valued-filter p es)
    ∙ sym (filter-with_value p e.0 e.1 (valued es))

no_entry : {A : Type 0} (es : List A) → length es ≡ 0 → es ≡ []
no_entry [] e = refl
no_entry (x ∷ es) e = absurd (omega arith)

entries-empty : {K : Type 0} (R : K → K → Ordering) (X : Type 0) → entries (empty {X = X} {R = R}) ≡ []
entries-empty R X = no_entry _ (sym (len-entries empty) ∙ len-empty R X)

none_later : {K X : Type 0} (R : K → K → Ordering) (k : K) (es : List (K × Option X)) → AllByRecursion (λ y. R k y ≡ Less) (keys_of es) → lookup (is_at (R k)) es ≡ None
none_later R k [] all = refl
none_later R k (e ∷ es) all = ap (λ r. cond (is_eq r) (Some e.1) (lookup (is_at (R k)) es)) all.0 ∙ none_later R k es all.1

module _ {K X : Type 0} {R : K → K → Ordering} (o : IsTotalOrder R) (same : IsAntisymmetric R) where
  put-before : (k : K) (v : X) (key : K) (w : Option X) (es : List (K × X)) → R k key ≡ Less → put R k v es ≡ (k, v) ∷ es → put R k v (with_value key w es) ≡ (k, v) ∷ with_value key w es
  put-before k v key None es less rest = rest
  put-before k v key (Some x) es less rest = ap (λ r. by_order r ((k, v) ∷ (key, x) ∷ es) ((key, v) ∷ es) ((key, x) ∷ put R k v es)) less

  put-first : (k : K) (v : X) (es : List (K × Option X)) → AllByRecursion (λ y. R k y ≡ Less) (keys_of es) → put R k v (valued es) ≡ (k, v) ∷ valued es
  put-first k v [] all = refl
  put-first k v (e ∷ es) all = put-before k v e.0 e.1 (valued es) all.0 (put-first k v es all.1)

  entries-with : (k : K) (w : Option X) (es : List (K × Option X)) → AllByRecursion (λ y. R k y ≡ Less) (keys_of es) → entries (values_at R es) ≡ valued es → entries (values_at R ((k, w) ∷ es)) ≡ with_value k w (valued es)
  entries-with k None es later rest = ap entries (remove-absent o same (values_at R es) k (get-values_at o es k ∙ ap option_flatten (none_later R k es later))) ∙ rest
  entries-with k (Some v) es later rest = entries-insert o (values_at R es) k v ∙ ap (put R k v) rest ∙ put-first k v es later

  -- the entries of the map are the places that have a value
  pub entries-values_at : (es : List (K × Option X)) → IsStrictlySortedBy R (keys_of es) → entries (values_at R es) ≡ valued es
  entries-values_at [] sorted = entries-empty R X
  entries-values_at (e ∷ es) sorted = entries-with e.0 e.1 es (sorted_head R e.0 (keys_of es) sorted) (entries-values_at es (sorted_tail R e.0 (keys_of es) sorted))

  -- the first place with a value, among those from a bound on
  pub first_from-range : (es range : List (K × Option X)) (start : Bound K) → IsStrictlySortedBy R (keys_of es) → range ≡ entries_between R start Unbounded es
      → slice_get (valued range) 0 ≡ first_from R start (values_at R es)
  first_from-range es range start sorted is =
      ap (λ r. slice_get (valued r) 0) is
      ∙ ap (λ xs. slice_get xs 0) (valued-filter (range_contains R start Unbounded) es)
      ∙ ap (λ xs. slice_get (entries_between R start Unbounded xs) 0) (sym (entries-values_at es sorted))
