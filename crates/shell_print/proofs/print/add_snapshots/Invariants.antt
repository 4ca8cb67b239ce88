use Rattle.std.proofs.Common.{◌≡◌, ◌++◌, take}
use Rattle.std.specs.List.{flat_map}
use Rattle.shell_print.specs.Piece.{line}
use Rattle.shell_print.proofs.print.add_snapshots.Given as goal

-- what was added stands for what was gone through
abbrev pub invariant-loop-name : goal.invariant-loop-name
invariant-loop-name l = l.out ≡ l.fn.out ++ flat_map line (take l.name-index l.names)
