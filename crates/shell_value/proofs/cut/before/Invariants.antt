use Rattle.std.proofs.Common.{◌≡◌, ◌++◌, take, drop}
use Rattle.shell_value.specs.Cut.{before}
use Rattle.shell_value.proofs.cut.before.Given as goal

-- no mark stands among the bytes so far
abbrev pub invariant-loop-i : goal.invariant-loop-i
invariant-loop-i l = before l.mark l.bytes ≡ take l.i l.bytes ++ before l.mark (drop l.i l.bytes)
