use Rattle.std.proofs.Common.{length, ◌-◌}
use Rattle.wire_fields.proofs.Messages.{IsWalk}
use Rattle.wire_fields.proofs.message.last_number.Given as goal

-- the bytes up to the place are some fields, and this is their last number
abbrev pub invariant-loop-at : goal.invariant-loop-at
invariant-loop-at l = IsWalk l.bytes l.number l.at l.last

abbrev pub decreases-loop-at : goal.decreases-loop-at
decreases-loop-at l = length l.bytes - l.at
