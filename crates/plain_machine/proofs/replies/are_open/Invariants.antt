use Rattle.std.proofs.Common.{◌≡◌, drop}
use Rattle.std.specs.List.{list_all}
use Rattle.plain_model.specs.Found.{is_open_hold}
use Rattle.plain_machine.specs.Machine.{state_of}
use Rattle.plain_machine.proofs.replies.are_open.Given as goal

abbrev pub invariant-loop-hold : goal.invariant-loop-hold
invariant-loop-hold l = list_all (is_open_hold (state_of l.machine)) (drop l.hold-index l.holds) ≡ list_all (is_open_hold (state_of l.machine)) l.holds
