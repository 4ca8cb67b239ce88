use Rattle.std.proofs.Common.{sym, subst}
use Rattle.cell_merge.specs.Input.{IsInOrder}
use Rattle.merge_bench.proofs.InOrder.{IsInOrder-push}
use Rattle.merge_bench.proofs.inputs.Goals as goal

pub loop-which-preserved : goal.loop-which-preserved
loop-which-preserved c = subst IsInOrder (sym c.in_ok-push.ensures.items)
    (IsInOrder-push c.loop-which.inputs.items c.in_ok-input.field-0 c.loop-which.invariant c.in_ok-input.ensures)
