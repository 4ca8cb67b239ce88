use Rattle.std.proofs.Common.{◌≡◌, take}
use Rattle.plain_cells.specs.VisibleSteps.{others}
use Rattle.plain_cells.proofs.cells.others.Given as goal

abbrev pub invariant-loop-cell : goal.invariant-loop-cell
invariant-loop-cell l = l.some.items ≡ others l.first (take l.cell-index l.cells)
