use Rattle.std.proofs.Common.{◌≡◌, take}
use Rattle.plain_events.specs.Parts.{without_actor}
use Rattle.plain_events.proofs.activities.without_actor.Given as goal

abbrev pub invariant-loop-entry : goal.invariant-loop-entry
invariant-loop-entry g l = l.some.items ≡ without_actor l.actor (take l.entry-index l.entries)
