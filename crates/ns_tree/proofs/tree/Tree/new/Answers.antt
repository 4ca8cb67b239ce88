use Rattle.std.proofs.Common.{subst, sym}
use Rattle.ns_tree.specs.Tree.{IsTree}
use Rattle.ns_tree.proofs.Trees.{IsTree-empty}
use Rattle.ns_tree.proofs.tree.Tree.new.Goals as goal

pub invariant_of-result : goal.invariant_of-result
invariant_of-result c = subst IsTree (sym c.new.ensures) IsTree-empty
