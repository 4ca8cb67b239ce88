use Rattle.std.proofs.Common.{subst, sym}
use Rattle.ns_tree.specs.Step.{with_moment}
use Rattle.ns_tree.specs.Tree.{IsTree}
use Rattle.ns_tree.proofs.Trees.{IsTree-change}
use Rattle.ns_tree.proofs.tree.Tree.touch.Goals as goal

pub invariant_of-self : goal.invariant_of-self
invariant_of-self c = subst IsTree (sym c.set_moment.ensures.set) (IsTree-change (with_moment c.args.moment) c.self.inside.files c.as_blob.result.now c.self.invariant)
