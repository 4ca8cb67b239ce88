use Rattle.std.proofs.Common.{subst, sym}
use Rattle.ns_tree.specs.Step.{with_bytes_added}
use Rattle.ns_tree.specs.Tree.{IsTree}
use Rattle.ns_tree.proofs.Trees.{IsTree-change}
use Rattle.ns_tree.proofs.tree.Tree.append.Goals as goal

pub invariant_of-self-2 : goal.invariant_of-self-2
invariant_of-self-2 c = subst IsTree (sym c.in_ok-add_bytes.ensures.set) (IsTree-change (with_bytes_added c.args.bytes.now) c.self.inside.files c.as_blob.result.now c.self.invariant)
