use Rattle.std.proofs.Common.{◌≡◌, ◌++◌, drop}
use Rattle.plain_model.specs.Replies.{taken_by}
use Rattle.plain_machine.proofs.replies.taken_by.Given as goal

abbrev pub invariant-loop-hold : goal.invariant-loop-hold
invariant-loop-hold l = l.names.items ++ taken_by (drop l.hold-index l.holds) ≡ taken_by l.holds
