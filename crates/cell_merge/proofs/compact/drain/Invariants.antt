use Rattle.std.proofs.Common.{◌≡◌, ◌++◌, length}
use Rattle.cell_merge.proofs.compact.drain.Given as goal

abbrev pub invariant-loop-cells : goal.invariant-loop-cells
invariant-loop-cells l = l.cells ++ l.merge ≡ l.fn.merge

abbrev pub decreases-loop-cells : goal.decreases-loop-cells
decreases-loop-cells l = length l.merge
