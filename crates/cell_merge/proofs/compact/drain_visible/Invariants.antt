use Rattle.std.proofs.Common.{◌≡◌, ◌++◌, length}
use Rattle.cell_merge.proofs.compact.drain_visible.Given as goal

abbrev pub invariant-loop-cells : goal.invariant-loop-cells
invariant-loop-cells l = l.cells ++ l.shown ≡ l.fn.shown

abbrev pub decreases-loop-cells : goal.decreases-loop-cells
decreases-loop-cells l = length l.shown
