use Rattle.std.proofs.Common.{◌≡◌, [], take, drop}
use Rattle.plain_model.specs.Replies.{repeated_behind}
use Rattle.plain_tables.proofs.new_tables.repeated.Given as goal

abbrev pub invariant-loop-i : goal.invariant-loop-i
invariant-loop-i l = repeated_behind (take l.i l.families) (drop l.i l.families) ≡ repeated_behind [] l.families
