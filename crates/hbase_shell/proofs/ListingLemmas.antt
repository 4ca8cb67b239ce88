-- The names of the places below the snapshots' directory are those of the snapshots.
use Rattle.std.proofs.Common.{◌≡◌, ℕ, ◌↔◌, List, Option, Some, None, IfSome, IsTrue, Any, Contains, codes, nat_cmp, subst}
use Rattle.std.specs.Cmp.Lexicographic.{slice_cmp}
use Rattle.std.specs.FinMap.{keys}
use Rattle.std.specs.List.{filter, list_any}
use Rattle.std.specs.List.Sorted.{IsStrictlySortedBy}
use Rattle.std.specs.Ordering.{eq_by_cmp}
use Rattle.ns_tree.specs.Places.{is_below}
use Rattle.ns_tree.specs.Tree.{Tree, listing}
use Rattle.hbase_shell.specs.Snapshots.{IsInSnapshot, IsListing, IsSnapshotOf, listing_text}
use Rattle.hbase_shell.proofs.PlaceLemmas.{below-IsInSnapshot}
use Rattle.hbase_shell.proofs.SetLemmas.{Any-kept, Contains-keys}

-- the keys of a set of names, as the places name them
abbrev pub HasNames : List (List ℕ) → List (List ℕ) → Type 0
HasNames names places = (name : List ℕ) → IsTrue (list_any (eq_by_cmp (slice_cmp nat_cmp) name) names) ↔ Any (IsInSnapshot name) places

IsSnapshotOf-names : (tree : Tree) (names places : List (List ℕ)) → HasNames names places → places ≡ listing (Some (codes ".hbase-snapshot")) tree →
    (name : List ℕ) → Contains names name ↔ IsSnapshotOf tree name
IsSnapshotOf-names tree names places has e name =
    let kept = Any-kept (IsInSnapshot name) (is_below (codes ".hbase-snapshot")) tree (λ q inside. below-IsInSnapshot name q inside) in
    let listed : HasNames names (filter (is_below (codes ".hbase-snapshot")) (keys tree)) = subst (HasNames names) e has in (
      λ c. kept.0 ((listed name).0 ((Contains-keys name names).0 c)),
      λ s. (Contains-keys name names).1 ((listed name).1 (kept.1 s)),
    )

snapshots-told : (told : Option Tree) (names places : List (List ℕ)) → HasNames names places → IfSome told (λ tree. places ≡ listing (Some (codes ".hbase-snapshot")) tree) →
    IfSome told (λ tree. (name : List ℕ) → Contains names name ↔ IsSnapshotOf tree name)
snapshots-told None names places has e = tt
snapshots-told (Some tree) names places has e = IsSnapshotOf-names tree names places has e

-- a text of the names of a store's listing lists its snapshots
pub IsListing-names : (told : Option Tree) (text : List ℕ) (names places : List (List ℕ)) → text ≡ listing_text names → IsStrictlySortedBy (slice_cmp nat_cmp) names →
    HasNames names places → IfSome told (λ tree. places ≡ listing (Some (codes ".hbase-snapshot")) tree) → IsListing told text
IsListing-names told text names places whole in_order has listed = record {
  names = names;
  whole = whole;
  in_order = in_order;
  snapshots = snapshots-told told names places has listed;
}
