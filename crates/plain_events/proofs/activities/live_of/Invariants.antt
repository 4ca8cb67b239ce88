use Rattle.std.proofs.Common.{◌≡◌, drop}
use Rattle.plain_model.specs.LiveEvents.{live_of}
use Rattle.plain_events.proofs.activities.live_of.Given as goal

abbrev pub invariant-loop-one : goal.invariant-loop-one
invariant-loop-one l = live_of (drop l.one-index l.live) l.actor.0 ≡ live_of l.live l.actor.0
