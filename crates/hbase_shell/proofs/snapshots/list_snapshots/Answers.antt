use Rattle.std.proofs.Common.{◌≡◌, List, ℕ, Option, Some, IfSome, subst}
use Rattle.ns_tree.specs.Tree.{Tree, listing}
use Rattle.hbase_shell.proofs.ListingLemmas.{HasNames, IsListing-names}
use Rattle.hbase_shell.proofs.snapshots.list_snapshots.Goals as goal

-- the places are the listing of the tree below this directory
abbrev Lists : Option Tree → List (List ℕ) → List ℕ → Type 0
Lists told places dir = IfSome told (λ tree. places ≡ listing (Some dir) tree)

pub returns-clause-ok : goal.returns-clause-ok
returns-clause-ok g c =
    IsListing-names _ _ _ c.in-Ok.places c.in_ok-listing_of.ensures c.in_ok-names.ensures.in_order
    (subst (HasNames c.in_ok-names.names.keys) c.as_slice.ensures c.in_ok-names.ensures.names)
    (subst (Lists (g.N.Namespace.told c.args.store.now) c.in-Ok.places) c.in_ok-directory.ensures c.in-Ok.ensures.ok)
