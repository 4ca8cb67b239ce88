use Rattle.std.proofs.Common.{◌≡◌, ◌++◌, take}
use Rattle.std.specs.List.{flat_map}
use Rattle.shell_print.specs.ReplyText.{deleted_line}
use Rattle.shell_print.proofs.print.add_deleted.Given as goal

-- what was added stands for what was gone through
abbrev pub invariant-loop-place : goal.invariant-loop-place
invariant-loop-place l = l.out ≡ l.fn.out ++ flat_map deleted_line (take l.place-index l.places)
