use Rattle.std.proofs.Common.{◌≡◌, [], drop}
use Rattle.plain_events.specs.Parts.{by_region}
use Rattle.plain_events.proofs.by_region.cells_at.Given as goal

abbrev pub invariant-loop-entry : goal.invariant-loop-entry
invariant-loop-entry l = by_region [] (drop l.entry-index l.entries) l.key ≡ by_region [] l.entries l.key
