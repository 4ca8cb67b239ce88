use Rattle.std.proofs.Common.{◌≡◌, ◌++◌, drop}
use Rattle.plain_model.specs.Replies.{taken_names}
use Rattle.plain_machine.proofs.replies.taken_names.Given as goal

abbrev pub invariant-loop-one : goal.invariant-loop-one
invariant-loop-one l = l.all ++ taken_names (drop l.one-index l.live) ≡ taken_names l.live
