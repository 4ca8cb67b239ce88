use Rattle.std.proofs.Common.{length, ◌-◌}
use Rattle.wire_fields.proofs.Messages.{IsUpTo}
use Rattle.wire_fields.proofs.message.all_fields.Given as goal

-- the bytes up to the place are the fields so far
abbrev pub invariant-loop-at : goal.invariant-loop-at
invariant-loop-at l = IsUpTo l.bytes l.fields.items l.at

abbrev pub decreases-loop-at : goal.decreases-loop-at
decreases-loop-at l = length l.bytes - l.at
