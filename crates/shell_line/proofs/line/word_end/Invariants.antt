use Rattle.std.proofs.Common.{take}
use Rattle.shell_line.specs.Line.{IsBegun}
use Rattle.shell_line.proofs.line.word_end.Given as goal

-- the bytes so far are the front of a word
abbrev pub invariant-loop-i : goal.invariant-loop-i
invariant-loop-i l = IsBegun l.kinds (take l.i l.bytes)
