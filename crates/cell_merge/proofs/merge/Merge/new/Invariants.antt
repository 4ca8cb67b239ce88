use Rattle.std.proofs.Common.{◌≤◌, ◌+◌, ◌++◌}
use Rattle.std.specs.BinaryHeap.{heap_items, heap_len, heap_capacity}
use Rattle.std.specs.Vec.Iter.{into_iter_items, into_iter_len}
use Rattle.cell_sight.specs.Same.{Same}
use Rattle.cell_merge.specs.Heads.{all_left, AreReady}
use Rattle.cell_merge.specs.Input.{IsInOrder, all_cells}
use Rattle.cell_merge.proofs.merge.Merge.new.Given as goal

abbrev pub invariant-loop-input : goal.invariant-loop-input
invariant-loop-input l = record {
  ready : AreReady l.heads;
  room : heap_len l.heads + into_iter_len l.inputs ≤ heap_capacity l.heads;
  order : IsInOrder (into_iter_items l.inputs);
  same : Same (all_left (heap_items l.heads) ++ all_cells (into_iter_items l.inputs)) (all_cells l.fn.inputs);
}

abbrev pub decreases-loop-input : goal.decreases-loop-input
decreases-loop-input l = into_iter_len l.inputs
