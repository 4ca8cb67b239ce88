use Rattle.std.proofs.Common.{◌≡◌, take}
use Rattle.plain_model.specs.LiveEvents.{without}
use Rattle.plain_events.proofs.activities.without.Given as goal

abbrev pub invariant-loop-one : goal.invariant-loop-one
invariant-loop-one l = l.some.items ≡ without l.actor.0 (take l.one-index l.live)
