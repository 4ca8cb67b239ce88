use Rattle.std.proofs.Common.{ℕ, List, ◌↔◌, IsTrue, Any, take, nat_cmp}
use Rattle.std.specs.BTreeSet.{contains}
use Rattle.std.specs.Cmp.Lexicographic.{slice_cmp}
use Rattle.std.specs.List.Sorted.{IsStrictlySortedBy}
use Rattle.hbase_shell.specs.Snapshots.{IsInSnapshot}
use Rattle.hbase_shell.proofs.snapshots.snapshot_names.Given as goal

-- the set has the names of the places so far
abbrev pub invariant-loop-place : goal.invariant-loop-place
invariant-loop-place l = record {
  names : (name : List ℕ) → IsTrue (contains (slice_cmp nat_cmp) l.names name) ↔ Any (IsInSnapshot name) (take l.place-index l.places);
  in_order : IsStrictlySortedBy (slice_cmp nat_cmp) l.names.keys;
}
