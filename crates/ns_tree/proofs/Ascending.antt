-- A listing ascends strictly in the order of texts.
use Rattle.std.proofs.Common.{◌≡◌, ℕ, List, [], ◌∷◌, Bool, true, false, T, cond, Option, Some, None, refl, nat_cmp}
use Rattle.std.specs.FinMap.{entries, entries_sorted, is_sorted, keys}
use Rattle.std.specs.FinMap.Entries.{below_all}
use Rattle.std.specs.List.{filter, AllByRecursion}
use Rattle.std.specs.List.Sorted.{IsStrictlySortedBy}
use Rattle.std.specs.Map.{keys_of}
use Rattle.std.specs.Ordering.{is_lt}
use Rattle.std.specs.declared.cmp.Ordering.{Ordering}
use Rattle.std.specs.declared.cmp.Ordering.TheVariants.{Less, Equal, Greater}
use Rattle.std.specs.Cmp.Lexicographic.{slice_cmp}
use Rattle.std.proofs.lemmas.Bool.{and_parts}
use Rattle.ns_tree.specs.Places.{is_below}
use Rattle.ns_tree.specs.Tree.{Tree, listing}
use Rattle.ns_tree.proofs.Entries.{Files}

true-T : (b : Bool) → T b → b ≡ true
true-T true h = refl
true-T false h = absurd h

Less-is_lt : (o : Ordering) → is_lt o ≡ true → o ≡ Less
Less-is_lt Less e = refl
Less-is_lt Equal e = absurd (cc)
Less-is_lt Greater e = absurd (cc)

below-below_all : (x : List ℕ) (es : Files) → below_all (slice_cmp nat_cmp) x es ≡ true → AllByRecursion (λ y. slice_cmp nat_cmp x y ≡ Less) (keys_of es)
below-below_all x [] all = tt
below-below_all x (e ∷ es) all =
    let parts = and_parts (is_lt (slice_cmp nat_cmp x e.0)) (below_all (slice_cmp nat_cmp) x es) all in
    (Less-is_lt (slice_cmp nat_cmp x e.0) parts.0, below-below_all x es parts.1)

sorted-is_sorted : (es : Files) → is_sorted (slice_cmp nat_cmp) es ≡ true → IsStrictlySortedBy (slice_cmp nat_cmp) (keys_of es)
unfolding IsStrictlySortedBy
sorted-is_sorted [] sorted = tt
sorted-is_sorted (e ∷ es) sorted =
    let parts = and_parts (below_all (slice_cmp nat_cmp) e.0 es) (is_sorted (slice_cmp nat_cmp) es) sorted in
    (below-below_all e.0 es parts.0, sorted-is_sorted es parts.1)

below-filter : (p : List ℕ → Bool) (x : List ℕ) (ks : List (List ℕ)) → AllByRecursion (λ y. slice_cmp nat_cmp x y ≡ Less) ks → AllByRecursion (λ y. slice_cmp nat_cmp x y ≡ Less) (filter p ks)
below-filter p x [] all = tt
below-filter p x (k ∷ ks) all = elim (p k) as (λ b. AllByRecursion (λ y. slice_cmp nat_cmp x y ≡ Less) (cond b (k ∷ filter p ks) (filter p ks))) [
  | true ↦ (all.0, below-filter p x ks all.1)
  | false ↦ below-filter p x ks all.1
]

sorted-filter : (p : List ℕ → Bool) (ks : List (List ℕ)) → IsStrictlySortedBy (slice_cmp nat_cmp) ks → IsStrictlySortedBy (slice_cmp nat_cmp) (filter p ks)
unfolding IsStrictlySortedBy
sorted-filter p [] sorted = tt
sorted-filter p (k ∷ ks) sorted = elim (p k) as (λ b. IsStrictlySortedBy (slice_cmp nat_cmp) (cond b (k ∷ filter p ks) (filter p ks))) [
  | true ↦ (below-filter p k ks sorted.0, sorted-filter p ks sorted.1)
  | false ↦ sorted-filter p ks sorted.1
]

-- the keys of a tree ascend strictly
sorted-keys : (tree : Tree) → IsStrictlySortedBy (slice_cmp nat_cmp) (keys tree)
sorted-keys tree = sorted-is_sorted (entries tree) (true-T _ (entries_sorted tree))

-- a listing ascends strictly in byte order of the whole text, so it has each place once
pub sorted-listing : (below : Option (List ℕ)) (tree : Tree) → IsStrictlySortedBy (slice_cmp nat_cmp) (listing below tree)
sorted-listing None tree = sorted-keys tree
sorted-listing (Some dir) tree = sorted-filter (is_below dir) (keys tree) (sorted-keys tree)
