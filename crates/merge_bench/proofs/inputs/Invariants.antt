use Rattle.cell_merge.specs.Input.{IsInOrder}
use Rattle.merge_bench.proofs.inputs.Given as goal

abbrev pub invariant-loop-which : goal.invariant-loop-which
invariant-loop-which l = IsInOrder l.inputs.items
