use Rattle.std.proofs.Common.{◌≡◌, ◌++◌, map, filter}
use Rattle.std.specs.Vec.Iter.{into_iter_items, into_iter_len}
use Rattle.cell_merge.specs.Input.{keeps, numbered}
use Rattle.cell_merge.proofs.input.take_cells.Given as goal

abbrev pub invariant-loop-cell : goal.invariant-loop-cell
invariant-loop-cell l = l.taken.items ++ map (numbered l.seq) (filter (keeps l.half) (into_iter_items l.rest)) ≡ map (numbered l.fn.seq) (filter (keeps l.half) l.fn.cells.items)

abbrev pub decreases-loop-cell : goal.decreases-loop-cell
decreases-loop-cell l = into_iter_len l.rest
