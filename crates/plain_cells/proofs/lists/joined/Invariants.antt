use Rattle.std.proofs.Common.{◌≡◌, ◌++◌, take}
use Rattle.plain_cells.proofs.lists.joined.Given as goal

abbrev pub invariant-loop-value : goal.invariant-loop-value
invariant-loop-value g l = l.all.items ≡ l.fn.front ++ take l.value-index l.back
