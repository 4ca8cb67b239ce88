use Rattle.std.proofs.Common.{◌≡◌, take}
use Rattle.plain_model.specs.CellEvents.{under}
use Rattle.plain_cells.proofs.cells.under.Given as goal

abbrev pub invariant-loop-cell : goal.invariant-loop-cell
invariant-loop-cell l = l.some.items ≡ under l.row (take l.cell-index l.cells)
