use Rattle.std.proofs.Common.{◌≡◌, take}
use Rattle.plain_model.specs.CellEvents.{each_with}
use Rattle.plain_events.proofs.copies.each_with.Given as goal

abbrev pub invariant-loop-region : goal.invariant-loop-region
invariant-loop-region g l = l.all.items ≡ each_with l.value (take l.region-index l.regions)
