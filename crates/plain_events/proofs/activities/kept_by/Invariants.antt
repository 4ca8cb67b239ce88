use Rattle.std.proofs.Common.{◌≡◌, drop}
use Rattle.plain_events.specs.Parts.{by_actor}
use Rattle.plain_events.proofs.activities.kept_by.Given as goal

abbrev pub invariant-loop-entry : goal.invariant-loop-entry
invariant-loop-entry g l = by_actor (drop l.entry-index l.entries) l.actor.0 l.key ≡ by_actor l.entries l.actor.0 l.key
