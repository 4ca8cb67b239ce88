use Rattle.std.proofs.Common.{◌≡◌, ◌++◌, drop}
use Rattle.plain_model.specs.SnapshotEvents.{captured}
use Rattle.plain_events.specs.Parts.{by_actor}
use Rattle.plain_events.proofs.take.captured.Given as goal

abbrev pub invariant-loop-region : goal.invariant-loop-region
invariant-loop-region l = l.copies.items ++ captured (by_actor l.captures l.actor.0) (drop l.region-index l.regions) ≡ captured (by_actor l.captures l.actor.0) l.regions
