use Rattle.std.proofs.Common.{◌≡◌, ◌≤◌, length, option_copied, drop}
use Rattle.plain_model.specs.Replies.{least_name}
use Rattle.plain_machine.proofs.replies.least_name.Given as goal

abbrev pub invariant-loop-i : goal.invariant-loop-i
invariant-loop-i l = record {
  within : l.i ≤ length l.names;
  done : option_copied l.best ≡ least_name (drop l.i l.names);
}

abbrev pub decreases-loop-i : goal.decreases-loop-i
decreases-loop-i l = l.i
