-- The entries of a sorted map as a tree.
use Rattle.std.proofs.Common.{◌≡◌, ℕ, List, [], ◌∷◌, ◌++◌, Some, None, Bool, true, false, ◌&&◌, ◌||◌, T, cond, nat_eq, refl, sym, ap, subst, ◌∙◌, nat_cmp, codes, option_map, Result, Ok, Err, OnErr}
use Rattle.std.specs.FinMap.{get, insert, remove, get-insert, get-remove, find, from_entries, from_sorted, entries, keys, contains_key, contains_key-keys, is_sorted, same_map, get-from_entries, get-from_sorted, entries-from_sorted, nat_cmp-IsAntisymmetric, slice_cmp-IsAntisymmetric}
use Rattle.std.specs.FinMap.Entries.{below_all}
use Rattle.std.specs.List.{filter, list_any, AllByRecursion}
use Rattle.std.specs.List.Sorted.{IsStrictlySortedBy}
use Rattle.std.specs.Ordering.{is_lt, is_le, eq_by_cmp}
use Rattle.std.specs.declared.cmp.Ordering.TheVariants.{Less}
use Rattle.std.specs.declared.ops.Bound.TheVariants.{Included, Unbounded}
use Rattle.std.specs.Cmp.Lexicographic.{slice_cmp, pointwise, texts_ties, nat_list_cmp_total}
use Rattle.std.specs.Cmp.{eq_by_cmp_equiv}
use Rattle.std.specs.Map.{lookup, keys_of, set_value}
use Rattle.std.proofs.lemmas.Map.Steps.{set_value_same}
use Rattle.std.specs.BTreeMap.{is_at}
use Rattle.std.specs.BTreeMap.Range.{entries_between}
use Rattle.std.proofs.lemmas.Bool.{and_from}
use Rattle.std.proofs.lemmas.Map.Keys.{sorted_head, sorted_tail}
use Rattle.ns_tree.specs.declared.file.FileState.{FileState}
use Rattle.ns_tree.specs.Places.{is_below}
use Rattle.ns_tree.specs.Step.{put_if_some}
use Rattle.ns_tree.specs.Tree.{listing, is_taken}
use Rattle.ns_tree.proofs.Below.{leading, filter-leading, first_passes, list_any-first}

-- entries, each a place and its file
abbrev pub Files : Type 0
Files = List (List ℕ × FileState)

-- the finite map's search is the sorted map's
find-lookup : (es : Files) (q : List ℕ) → find (slice_cmp nat_cmp) q es ≡ lookup (is_at (slice_cmp nat_cmp q)) es
find-lookup [] q = refl
find-lookup (e ∷ es) q = ap (cond (is_at (slice_cmp nat_cmp q) e.0) (Some e.1)) (find-lookup es q)

-- what the tree that the entries make has at a place
pub get_file : (es : Files) (q : List ℕ) → get (from_entries {R = slice_cmp nat_cmp} es) q ≡ lookup (is_at (slice_cmp nat_cmp q)) es
get_file es q = get-from_entries nat_list_cmp_total es q ∙ find-lookup es q

-- keys in order make a sorted list of entries
is_sorted-from : (es : Files) → IsStrictlySortedBy (slice_cmp nat_cmp) (keys_of es) → is_sorted (slice_cmp nat_cmp) es ≡ true
is_sorted-from [] sorted = refl
is_sorted-from (e ∷ es) sorted = and_from _ _ (below_all-from e.0 es (sorted_head (slice_cmp nat_cmp) e.0 (keys_of es) sorted)) (is_sorted-from es (sorted_tail (slice_cmp nat_cmp) e.0 (keys_of es) sorted))
  where
    below_all-from : (x : List ℕ) (fs : Files) → AllByRecursion (λ y. slice_cmp nat_cmp x y ≡ Less) (keys_of fs) → below_all (slice_cmp nat_cmp) x fs ≡ true
    below_all-from x [] all = refl
    below_all-from x (f ∷ fs) all = and_from _ _ (ap is_lt all.0) (below_all-from x fs all.1)

-- the tree that entries in order make has these entries
pub entries-from_entries : (es : Files) → IsStrictlySortedBy (slice_cmp nat_cmp) (keys_of es) → entries (from_entries {R = slice_cmp nat_cmp} es) ≡ es
entries-from_entries es sorted =
    let ordered : T (is_sorted (slice_cmp nat_cmp) es) = subst T (sym (is_sorted-from es sorted)) tt in
    ap entries (same_map nat_list_cmp_total (slice_cmp-IsAntisymmetric nat_cmp-IsAntisymmetric) (from_entries es) (from_sorted es)
    (λ q. get-from_entries nat_list_cmp_total es q ∙ sym (get-from_sorted (slice_cmp nat_cmp) es q ordered)))
    ∙ entries-from_sorted (slice_cmp nat_cmp) es ordered

-- and so these keys
pub keys-from_entries : (es : Files) → IsStrictlySortedBy (slice_cmp nat_cmp) (keys_of es) → keys (from_entries {R = slice_cmp nat_cmp} es) ≡ keys_of es
keys-from_entries es sorted = ap keys_of (entries-from_entries es sorted)

keys_of-filter : (p : List ℕ → Bool) (es : Files) → keys_of (filter (λ e. p e.0) es) ≡ filter p (keys_of es)
keys_of-filter p [] = refl
keys_of-filter p (e ∷ es) = elim (p e.0) as (λ b. keys_of (cond b (e ∷ filter (λ e. p e.0) es) (filter (λ e. p e.0) es)) ≡ cond b (e.0 ∷ filter p (keys_of es)) (filter p (keys_of es))) [
  | true ↦ ap (λ ks. e.0 ∷ ks) (keys_of-filter p es)
  | false ↦ keys_of-filter p es
]

filter_and_true : (p : List ℕ → Bool) (ks : List (List ℕ)) → filter (λ k. p k && true) ks ≡ filter p ks
filter_and_true p [] = refl
filter_and_true p (k ∷ ks) = elim (p k) as (λ b. cond (b && true) (k ∷ filter (λ k. p k && true) ks) (filter (λ k. p k && true) ks) ≡ cond b (k ∷ filter p ks) (filter p ks)) [
  | true ↦ ap (λ ks. k ∷ ks) (filter_and_true p ks)
  | false ↦ filter_and_true p ks
]

-- the places below a directory are the first of those from `dir/` on
pub listing-leading : (dir : List ℕ) (es : Files) → IsStrictlySortedBy (slice_cmp nat_cmp) (keys_of es)
    → listing (Some dir) (from_entries es) ≡ leading (is_below dir) (keys_of (entries_between (slice_cmp nat_cmp) (Included (dir ++ codes "/")) Unbounded es))
unfolding is_below
listing-leading dir es sorted =
    ap (filter (is_below dir)) (keys-from_entries es sorted)
    ∙ filter-leading (dir ++ codes "/") (keys_of es) sorted
    ∙ ap (leading (is_below dir)) (sym (keys_of-filter (λ k. is_le (slice_cmp nat_cmp (dir ++ codes "/") k) && true) es ∙ filter_and_true (λ k. is_le (slice_cmp nat_cmp (dir ++ codes "/") k)) (keys_of es)))

list_any-or : {X : Type 0} (p q : X → Bool) (xs : List X) → list_any (λ x. p x || q x) xs ≡ (list_any p xs || list_any q xs)
list_any-or p q [] = refl
list_any-or p q (x ∷ xs) = ap (λ b. (p x || q x) || b) (list_any-or p q xs) ∙ or_swap (p x) (q x) (list_any p xs) (list_any q xs)
  where
    or_swap : (a b c d : Bool) → ((a || b) || (c || d)) ≡ ((a || c) || (b || d))
    or_swap true b c d = refl
    or_swap false true true d = refl
    or_swap false true false d = refl
    or_swap false false c d = refl

list_any-same : {X : Type 0} (p q : X → Bool) → ((x : X) → p x ≡ q x) → (xs : List X) → list_any p xs ≡ list_any q xs
list_any-same p q same [] = refl
list_any-same p q same (x ∷ xs) = ap (λ b. b || list_any p xs) (same x) ∙ ap (λ b. q x || b) (list_any-same p q same xs)

-- where no file stands at a place, the first text from `place/` on says whether one stands below
pub is_taken-first : (place : List ℕ) (es : Files) → IsStrictlySortedBy (slice_cmp nat_cmp) (keys_of es) → contains_key (from_entries {R = slice_cmp nat_cmp} es) place ≡ false
    → is_taken place (from_entries es) ≡ first_passes (is_below place) (keys_of (entries_between (slice_cmp nat_cmp) (Included (place ++ codes "/")) Unbounded es))
is_taken-first place es sorted absent =
    let tree = from_entries {R = slice_cmp nat_cmp} es in
    let here = list_any-same (pointwise nat_eq place) (eq_by_cmp (slice_cmp nat_cmp) place) (texts_ties place) (keys tree) ∙ sym (contains_key-keys tree place) ∙ absent in
    list_any-or (pointwise nat_eq place) (is_below place) (keys tree)
    ∙ ap (λ b. b || list_any (is_below place) (keys tree)) here
    ∙ list_any-first (is_below place) (keys tree) _ (listing-leading place es sorted)

-- entries that differ at one place, where they have a file, make trees that do
pub insert_from_entries : (es fs : Files) (p : List ℕ) (f : FileState) → ((q : List ℕ) → lookup (is_at (slice_cmp nat_cmp q)) fs ≡ cond (is_at (slice_cmp nat_cmp p) q) (Some f) (lookup (is_at (slice_cmp nat_cmp q)) es))
    → from_entries {R = slice_cmp nat_cmp} fs ≡ insert (from_entries es) p f
insert_from_entries es fs p f h = same_map nat_list_cmp_total (slice_cmp-IsAntisymmetric nat_cmp-IsAntisymmetric) _ _ (λ q.
    get_file fs q ∙ h q ∙ ap (λ b. cond b (Some f) (lookup (is_at (slice_cmp nat_cmp q)) es)) ((eq_by_cmp_equiv nat_list_cmp_total).symm p q)
    ∙ sym (get-insert nat_list_cmp_total (from_entries es) p f q ∙ ap (cond (is_at (slice_cmp nat_cmp q) p) (Some f)) (get_file es q)))

-- the same where they have none
pub remove_from_entries : (es fs : Files) (p : List ℕ) → ((q : List ℕ) → lookup (is_at (slice_cmp nat_cmp q)) fs ≡ cond (is_at (slice_cmp nat_cmp p) q) None (lookup (is_at (slice_cmp nat_cmp q)) es))
    → from_entries {R = slice_cmp nat_cmp} fs ≡ remove (from_entries es) p
remove_from_entries es fs p h = same_map nat_list_cmp_total (slice_cmp-IsAntisymmetric nat_cmp-IsAntisymmetric) _ _ (λ q.
    get_file fs q ∙ h q ∙ ap (λ b. cond b None (lookup (is_at (slice_cmp nat_cmp q)) es)) ((eq_by_cmp_equiv nat_list_cmp_total).symm p q)
    ∙ sym (get-remove nat_list_cmp_total (from_entries es) p q ∙ ap (cond (is_at (slice_cmp nat_cmp q) p) None) (get_file es q)))

-- entries that differ at one place, where the file is changed, make trees that do
pub change_from_entries : (change : FileState → FileState) (es fs : Files) (p : List ℕ) (f g : FileState) → g ≡ change f → lookup (is_at (slice_cmp nat_cmp p)) es ≡ Some f
    → ((q : List ℕ) → lookup (is_at (slice_cmp nat_cmp q)) fs ≡ cond (is_at (slice_cmp nat_cmp p) q) (Some g) (lookup (is_at (slice_cmp nat_cmp q)) es))
    → from_entries {R = slice_cmp nat_cmp} fs ≡ put_if_some (option_map change (get (from_entries {R = slice_cmp nat_cmp} es) p)) p (from_entries {R = slice_cmp nat_cmp} es)
change_from_entries change es fs p f g changed stands set =
    insert_from_entries es fs p g set ∙ ap (insert (from_entries {R = slice_cmp nat_cmp} es) p) changed
    ∙ sym (ap (λ o. put_if_some (option_map change o) p (from_entries {R = slice_cmp nat_cmp} es)) (get_file es p ∙ stands))

-- a file that is written back as it was leaves the entries
pub same_entries : (es fs : Files) (p : List ℕ) (f g : FileState) → g ≡ f → lookup (is_at (slice_cmp nat_cmp p)) es ≡ Some f → fs ≡ set_value (is_at (slice_cmp nat_cmp p)) es g → fs ≡ es
same_entries es fs p f g same stands set = set ∙ ap (set_value (is_at (slice_cmp nat_cmp p)) es) same ∙ set_value_same (is_at (slice_cmp nat_cmp p)) es f stands

-- a fact holds after an error too
pub OnErr-from : {X E : Type 0} (r : Result X E) (P : Type 0) → P → OnErr r P
OnErr-from (Ok x) P p = tt
OnErr-from (Err e) P p = p

-- where none stands there is none to change
pub change_from_none : (change : FileState → FileState) (es : Files) (p : List ℕ) → lookup (is_at (slice_cmp nat_cmp p)) es ≡ None
    → from_entries {R = slice_cmp nat_cmp} es ≡ put_if_some (option_map change (get (from_entries {R = slice_cmp nat_cmp} es) p)) p (from_entries {R = slice_cmp nat_cmp} es)
change_from_none change es p none = sym (ap (λ o. put_if_some (option_map change o) p (from_entries {R = slice_cmp nat_cmp} es)) (get_file es p ∙ none))
