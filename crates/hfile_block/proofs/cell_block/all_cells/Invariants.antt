use Rattle.std.proofs.Common.{length, ◌-◌}
use Rattle.hfile_block.proofs.CellLists.{IsUpTo}
use Rattle.hfile_block.proofs.cell_block.all_cells.Given as goal

-- the content up to the place is the cells so far
abbrev pub invariant-loop-place : goal.invariant-loop-place
invariant-loop-place l = IsUpTo l.with_seq l.content l.place l.cells.items

abbrev pub decreases-loop-place : goal.decreases-loop-place
decreases-loop-place l = length l.content - l.place
