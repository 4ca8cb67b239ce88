use Rattle.std.proofs.Common.{subst, sym}
use Rattle.ns_tree.specs.Tree.{IsTree}
use Rattle.ns_tree.proofs.Trees.{IsTree-remove}
use Rattle.ns_tree.proofs.tree.Tree.delete.Goals as goal

pub invariant_of-self : goal.invariant_of-self
invariant_of-self c = subst IsTree (sym c.take.ensures.taken) (IsTree-remove c.self.inside.files c.as_blob.result.now c.self.invariant)
