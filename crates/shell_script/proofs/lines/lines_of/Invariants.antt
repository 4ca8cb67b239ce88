use Rattle.std.proofs.Common.{◌+◌, ◌≤◌, length}
use Rattle.shell_script.proofs.ScriptLemmas.{IsListed}
use Rattle.shell_script.proofs.lines.lines_of.Given as goal

-- the lines so far were listed, and no more than were there
abbrev pub invariant-loop-rest : goal.invariant-loop-rest
invariant-loop-rest l = record { listed : IsListed l.bytes l.lines.items l.number l.rest; within : l.number + length l.rest ≤ length l.bytes }

abbrev pub decreases-loop-rest : goal.decreases-loop-rest
decreases-loop-rest l = length l.rest
