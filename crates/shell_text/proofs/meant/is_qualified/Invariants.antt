use Rattle.std.proofs.Common.{take}
use Rattle.shell_text.proofs.MeantLemmas.{AreNamed}
use Rattle.shell_text.proofs.meant.is_qualified.Given as goal

-- the bytes so far may stand in a family's name
abbrev pub invariant-loop-i : goal.invariant-loop-i
invariant-loop-i l = AreNamed (take l.i l.bytes)
