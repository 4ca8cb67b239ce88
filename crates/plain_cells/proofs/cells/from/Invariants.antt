use Rattle.std.proofs.Common.{◌≡◌, take}
use Rattle.plain_model.specs.CellEvents.{from}
use Rattle.plain_cells.proofs.cells.from.Given as goal

abbrev pub invariant-loop-cell : goal.invariant-loop-cell
invariant-loop-cell l = l.some.items ≡ from l.row (take l.cell-index l.cells)
