use Rattle.std.proofs.Common.{◌≡◌, ◌≤◌, length, option_copied, drop}
use Rattle.std.specs.List.{list_any}
use Rattle.plain_model.specs.Held.{least}
use Rattle.plain_model.specs.Replies.{uses}
use Rattle.plain_machine.proofs.replies.least_user.Given as goal

abbrev pub invariant-loop-i : goal.invariant-loop-i
invariant-loop-i l = record {
  within : l.i ≤ length l.live;
  done : option_copied l.best ≡ least (λ a. list_any (uses l.name) a.holds) (drop l.i l.live);
}

abbrev pub decreases-loop-i : goal.decreases-loop-i
decreases-loop-i l = l.i
