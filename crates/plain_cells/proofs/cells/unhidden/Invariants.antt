use Rattle.std.proofs.Common.{◌≡◌, filter, take}
use Rattle.plain_cells.specs.VisibleSteps.{is_unhidden_in}
use Rattle.plain_cells.proofs.cells.unhidden.Given as goal

abbrev pub invariant-loop-cell : goal.invariant-loop-cell
invariant-loop-cell l = l.some.items ≡ filter (is_unhidden_in l.among) (take l.cell-index l.cells)
