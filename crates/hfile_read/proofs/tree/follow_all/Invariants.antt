use Rattle.std.proofs.Common.{◌≡◌, ◌+◌, ◌*◌, length}
use Rattle.hfile_read.specs.Views.{left_view, count_left}
use Rattle.hfile_read.specs.Following.{following}
use Rattle.hfile_read.proofs.tree.follow_all.Given as goal

-- what the open nodes leave is what the root does
abbrev pub invariant-loop-node : goal.invariant-loop-node
invariant-loop-node l = following l.cells l.nodes.items (left_view l.left) ≡ following l.cells l.initial.nodes.items (left_view l.initial.left)

abbrev pub decreases-loop-node : goal.decreases-loop-node
decreases-loop-node l = 2 * count_left l.left + length l.nodes.items
