use Rattle.std.proofs.Common.{take}
use Rattle.shell_script.proofs.ScriptLemmas.{IsRead}
use Rattle.shell_script.proofs.script.sessions_of.Given as goal

-- the lines so far were read as the sessions
abbrev pub invariant-loop-line : goal.invariant-loop-line
invariant-loop-line l = IsRead l.kinds l.blocks (take l.line-index l.lines) l.sessions.items
