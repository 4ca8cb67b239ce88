use Rattle.std.proofs.Common.{◌≡◌, ◌*◌, ◌≤◌, take, sum_by}
use Rattle.plain_model.specs.Found.{adds}
use Rattle.plain_machine.specs.Machine.{state_of}
use Rattle.plain_machine.proofs.replies.all_adds.Given as goal

abbrev pub invariant-loop-one : goal.invariant-loop-one
invariant-loop-one l = record {
  sum : l.count ≡ sum_by (adds (state_of l.machine) l.table) (take l.one-index l.machine.state.live);
  bound : l.count ≤ 2 * l.one-index;
}
