use Rattle.std.proofs.Common.{take}
use Rattle.shell_text.specs.TextLaws.{ArePlain}
use Rattle.shell_text.proofs.text_end.plain_front.Given as goal

-- the bytes so far stand for themselves
abbrev pub invariant-loop-i : goal.invariant-loop-i
invariant-loop-i l = ArePlain (take l.i l.bytes)
