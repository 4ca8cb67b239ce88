-- The entries of a sorted map as a finite map.
use Rattle.std.proofs.Common.{◌≡◌, ℕ, List, [], ◌∷◌, Some, None, true, T, cond, refl, sym, ap, subst, ◌∙◌, nat_cmp}
use Rattle.std.specs.FinMap.{get, insert, remove, get-insert, get-remove, find, from_entries, from_sorted, entries, keys, is_sorted, same_map, get-from_entries, get-from_sorted, entries-from_sorted, nat_cmp-IsAntisymmetric, slice_cmp-IsAntisymmetric}
use Rattle.std.specs.FinMap.Entries.{below_all}
use Rattle.std.specs.List.{AllByRecursion}
use Rattle.std.specs.List.Sorted.{IsStrictlySortedBy}
use Rattle.std.specs.Ordering.{is_lt}
use Rattle.std.specs.declared.cmp.Ordering.TheVariants.{Less}
use Rattle.std.specs.Cmp.Lexicographic.{slice_cmp, nat_list_cmp_total}
use Rattle.std.specs.Cmp.{eq_by_cmp_equiv}
use Rattle.std.specs.Map.{lookup, keys_of}
use Rattle.std.specs.BTreeMap.{is_at}
use Rattle.std.proofs.lemmas.Bool.{and_from}
use Rattle.std.proofs.lemmas.Map.Keys.{sorted_head, sorted_tail}

-- the finite map's search is the sorted map's
find-lookup : {X : Type 0} (es : List (List ℕ × X)) (q : List ℕ) → find (slice_cmp nat_cmp) q es ≡ lookup (is_at (slice_cmp nat_cmp q)) es
find-lookup [] q = refl
find-lookup (e ∷ es) q = ap (cond (is_at (slice_cmp nat_cmp q) e.0) (Some e.1)) (find-lookup es q)

-- what the entries' map has at a name
pub get_entry : {X : Type 0} (es : List (List ℕ × X)) (q : List ℕ) → get (from_entries {R = slice_cmp nat_cmp} es) q ≡ lookup (is_at (slice_cmp nat_cmp q)) es
get_entry es q = get-from_entries nat_list_cmp_total es q ∙ find-lookup es q

-- keys in order make a sorted list of entries
is_sorted-from : {X : Type 0} (es : List (List ℕ × X)) → IsStrictlySortedBy (slice_cmp nat_cmp) (keys_of es) → is_sorted (slice_cmp nat_cmp) es ≡ true
is_sorted-from [] sorted = refl
is_sorted-from {X} (e ∷ es) sorted = and_from _ _ (below_all-from e.0 es (sorted_head (slice_cmp nat_cmp) e.0 (keys_of es) sorted)) (is_sorted-from es (sorted_tail (slice_cmp nat_cmp) e.0 (keys_of es) sorted))
  where
    below_all-from : (x : List ℕ) (fs : List (List ℕ × X)) → AllByRecursion (λ y. slice_cmp nat_cmp x y ≡ Less) (keys_of fs) → below_all (slice_cmp nat_cmp) x fs ≡ true
    below_all-from x [] all = refl
    below_all-from x (f ∷ fs) all = and_from _ _ (ap is_lt all.0) (below_all-from x fs all.1)

-- the map that entries in order make has these entries
entries-from_entries : {X : Type 0} (es : List (List ℕ × X)) → IsStrictlySortedBy (slice_cmp nat_cmp) (keys_of es) → entries (from_entries {R = slice_cmp nat_cmp} es) ≡ es
entries-from_entries es sorted =
    let ordered : T (is_sorted (slice_cmp nat_cmp) es) = subst T (sym (is_sorted-from es sorted)) tt in
    ap entries (same_map nat_list_cmp_total (slice_cmp-IsAntisymmetric nat_cmp-IsAntisymmetric) (from_entries es) (from_sorted es)
    (λ q. get-from_entries nat_list_cmp_total es q ∙ sym (get-from_sorted (slice_cmp nat_cmp) es q ordered)))
    ∙ entries-from_sorted (slice_cmp nat_cmp) es ordered

-- and so these keys
pub keys-from_entries : {X : Type 0} (es : List (List ℕ × X)) → IsStrictlySortedBy (slice_cmp nat_cmp) (keys_of es) → keys (from_entries {R = slice_cmp nat_cmp} es) ≡ keys_of es
keys-from_entries es sorted = ap keys_of (entries-from_entries es sorted)

-- entries that differ at one name, where they have a value, make maps that do
pub insert_from_entries : {X : Type 0} (es fs : List (List ℕ × X)) (p : List ℕ) (f : X) → ((q : List ℕ) → lookup (is_at (slice_cmp nat_cmp q)) fs ≡ cond (is_at (slice_cmp nat_cmp p) q) (Some f) (lookup (is_at (slice_cmp nat_cmp q)) es))
    → from_entries {R = slice_cmp nat_cmp} fs ≡ insert (from_entries es) p f
insert_from_entries es fs p f h = same_map nat_list_cmp_total (slice_cmp-IsAntisymmetric nat_cmp-IsAntisymmetric) _ _ (λ q.
    get_entry fs q ∙ h q ∙ ap (λ b. cond b (Some f) (lookup (is_at (slice_cmp nat_cmp q)) es)) ((eq_by_cmp_equiv nat_list_cmp_total).symm p q)
    ∙ sym (get-insert nat_list_cmp_total (from_entries es) p f q ∙ ap (cond (is_at (slice_cmp nat_cmp q) p) (Some f)) (get_entry es q)))

-- the same where they have none
pub remove_from_entries : {X : Type 0} (es fs : List (List ℕ × X)) (p : List ℕ) → ((q : List ℕ) → lookup (is_at (slice_cmp nat_cmp q)) fs ≡ cond (is_at (slice_cmp nat_cmp p) q) None (lookup (is_at (slice_cmp nat_cmp q)) es))
    → from_entries {R = slice_cmp nat_cmp} fs ≡ remove (from_entries es) p
remove_from_entries es fs p h = same_map nat_list_cmp_total (slice_cmp-IsAntisymmetric nat_cmp-IsAntisymmetric) _ _ (λ q.
    get_entry fs q ∙ h q ∙ ap (λ b. cond b None (lookup (is_at (slice_cmp nat_cmp q)) es)) ((eq_by_cmp_equiv nat_list_cmp_total).symm p q)
    ∙ sym (get-remove nat_list_cmp_total (from_entries es) p q ∙ ap (cond (is_at (slice_cmp nat_cmp q) p) None) (get_entry es q)))
