use Rattle.std.proofs.Common.{◌≡◌, drop}
use Rattle.std.specs.List.{list_any}
use Rattle.plain_model.specs.Replies.{uses}
use Rattle.plain_machine.proofs.replies.is_user.Given as goal

abbrev pub invariant-loop-hold : goal.invariant-loop-hold
invariant-loop-hold l = list_any (uses l.name) (drop l.hold-index l.one.holds) ≡ list_any (uses l.name) l.one.holds
