use Rattle.std.proofs.Common.{length, ◌-◌, ◌≤◌}
use Rattle.std.specs.Prelude.{unwrap_or}
use Rattle.field_reader.proofs.Walks.{IsSoFar}
use Rattle.field_reader.proofs.Places.{IsLastPlace}
use Rattle.field_reader.proofs.made.last_place.Given as goal

abbrev pub invariant-loop-at : goal.invariant-loop-at
invariant-loop-at l = IsSoFar (IsLastPlace l.number) l.bytes l.at l.last × (unwrap_or l.last 0 ≤ l.at)

abbrev pub decreases-loop-at : goal.decreases-loop-at
decreases-loop-at l = length l.bytes - l.at
