use Rattle.std.proofs.Common.{◌≡◌, drop}
use Rattle.plain_model.specs.CellEvents.{greatest}
use Rattle.plain_cells.proofs.cells.greatest.Given as goal

abbrev pub invariant-loop-cell : goal.invariant-loop-cell
invariant-loop-cell l = greatest l.most (drop l.cell-index l.cells) ≡ greatest l.number l.cells
