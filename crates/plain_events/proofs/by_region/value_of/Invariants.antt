use Rattle.std.proofs.Common.{◌≡◌, drop}
use Rattle.plain_events.specs.Parts.{by_region}
use Rattle.plain_events.proofs.by_region.value_of.Given as goal

-- the entries passed are of other regions
abbrev pub invariant-loop-entry : goal.invariant-loop-entry
invariant-loop-entry g l = by_region l.unset (drop l.entry-index l.entries) l.key ≡ by_region l.unset l.entries l.key
