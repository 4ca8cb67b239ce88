use Rattle.std.proofs.Common.{length, ◌-◌}
use Rattle.field_reader.proofs.Walks.{IsSoFar}
use Rattle.field_reader.proofs.walk.read_fields.Given as goal

abbrev pub invariant-loop-at : goal.invariant-loop-at
invariant-loop-at g l = IsSoFar g.S.Fields.rules l.bytes l.at l.fields

abbrev pub decreases-loop-at : goal.decreases-loop-at
decreases-loop-at g l = length l.bytes - l.at
