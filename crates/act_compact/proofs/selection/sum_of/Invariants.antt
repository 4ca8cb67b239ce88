use Rattle.std.proofs.Common.{◌≡◌, ◌≤◌, ◌*◌, ◌^◌, take}
use Rattle.std.specs.Prelude.{sum}
use Rattle.act_compact.proofs.selection.sum_of.Given as goal

abbrev pub invariant-loop-size : goal.invariant-loop-size
invariant-loop-size l = (l.all ≡ sum (take l.size-index l.sizes)) × (l.all ≤ l.size-index * 2 ^ 64)
