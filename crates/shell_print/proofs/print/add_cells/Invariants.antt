use Rattle.std.proofs.Common.{◌≡◌, ◌++◌, take}
use Rattle.std.specs.List.{flat_map}
use Rattle.shell_print.specs.ReplyText.{cell_line}
use Rattle.shell_print.proofs.print.add_cells.Given as goal

-- what was added stands for what was gone through
abbrev pub invariant-loop-cell : goal.invariant-loop-cell
invariant-loop-cell l = l.out ≡ l.fn.out ++ flat_map cell_line (take l.cell-index l.cells)
