use Rattle.std.proofs.Common.{length, ◌-◌}
use Rattle.hfile_read.proofs.Cells.{IsBehind}
use Rattle.hfile_read.proofs.data.add_cells.Given as goal

-- the cells up to the place stand behind those before them, and the first that is misplaced is known
abbrev pub invariant-loop-place : goal.invariant-loop-place
invariant-loop-place l = IsBehind l.with_seq l.content l.at l.place l.initial.cells.items l.cells.items l.misplaced

abbrev pub decreases-loop-place : goal.decreases-loop-place
decreases-loop-place l = length l.content - l.place
