-- Operations as the calls of a store, and what these make of its tree.
use Rattle.std.specs.Prelude.{◌≡◌, ℕ, List, [], ◌∷◌, codes, Option, Some, None}
use Rattle.std.specs.List.{join_with_byte}
use Rattle.ns_tree.specs.Step.{Write, step, refusal}
use Rattle.ns_tree.specs.Step as ns
use Rattle.ns_tree.specs.Tree.{Tree}
use Rattle.core_model.specs.Disk.{Op, Nothing, Create, Rename, Remove, Touch, Publish, Withdraw}
use Rattle.core_model.specs.Site.{site_text}

-- the directories of a snapshot: when it is complete, and while it is made
abbrev pub snapshot_place : List ℕ → List ℕ
snapshot_place name = join_with_byte 47 (codes ".hbase-snapshot" ∷ name ∷ [])

abbrev pub working_place : List ℕ → List ℕ
working_place name = join_with_byte 47 (codes ".hbase-snapshot" ∷ codes ".tmp" ∷ name ∷ [])

-- the call that an operation makes, if it makes one
abbrev pub call_of : Op → Option Write
call_of Nothing = None
call_of (Create p bytes) = Some (ns.Create (site_text p) bytes)
call_of (Rename p q) = Some (ns.Rename (site_text p) (site_text q))
call_of (Remove p) = Some (ns.Delete (site_text p))
call_of (Touch p moment) = Some (ns.Touch (site_text p) moment)
call_of (Publish name) = Some (ns.Rename (working_place name) (snapshot_place name))
call_of (Withdraw name) = Some (ns.Rename (snapshot_place name) (working_place name))

-- the tree that it leaves
abbrev pub tree_with : Option Write → Tree → Tree
tree_with None tree = tree
tree_with (Some call) tree = step call tree

abbrev pub tree_after : Op → Tree → Tree
tree_after o tree = tree_with (call_of o) tree

-- the store does not refuse it
abbrev pub IsAccepted : Option Write → Tree → Type 0
IsAccepted None tree = Unit {0}
IsAccepted (Some call) tree = refusal call tree ≡ None
