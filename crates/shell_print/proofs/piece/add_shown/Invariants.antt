use Rattle.std.proofs.Common.{◌≡◌, ◌++◌, take}
use Rattle.std.specs.List.{flat_map}
use Rattle.shell_print.specs.Shown.{byte_text}
use Rattle.shell_print.proofs.piece.add_shown.Given as goal

-- what was added stands for what was gone through
abbrev pub invariant-loop-byte : goal.invariant-loop-byte
invariant-loop-byte l = l.out ≡ l.fn.out ++ flat_map byte_text (take l.byte-index l.bytes)
