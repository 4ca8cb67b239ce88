use Rattle.std.proofs.Common.{◌≡◌, take, count_by}
use Rattle.cell_sight.specs.Visible.{is_newer}
use Rattle.plain_cells.proofs.cells.newer.Given as goal

abbrev pub invariant-loop-other : goal.invariant-loop-other
invariant-loop-other l = l.count ≡ count_by (λ d. is_newer d l.cell) (take l.other-index l.cells)
