use Rattle.std.proofs.Common.{◌≡◌, filter, take}
use Rattle.plain_cells.specs.VisibleSteps.{is_newest_in}
use Rattle.plain_cells.proofs.cells.newest.Given as goal

abbrev pub invariant-loop-cell : goal.invariant-loop-cell
invariant-loop-cell l = l.some.items ≡ filter (is_newest_in l.families l.among) (take l.cell-index l.cells)
