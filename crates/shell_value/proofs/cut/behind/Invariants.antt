use Rattle.std.proofs.Common.{◌≡◌, drop}
use Rattle.shell_value.specs.Cut.{behind}
use Rattle.shell_value.proofs.cut.behind.Given as goal

-- no mark stands among the bytes so far
abbrev pub invariant-loop-i : goal.invariant-loop-i
invariant-loop-i l = behind l.mark l.bytes ≡ behind l.mark (drop l.i l.bytes)
