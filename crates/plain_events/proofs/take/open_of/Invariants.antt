use Rattle.std.proofs.Common.{◌≡◌, take}
use Rattle.plain_model.specs.Rows.{open_of}
use Rattle.plain_events.proofs.take.open_of.Given as goal

abbrev pub invariant-loop-region : goal.invariant-loop-region
invariant-loop-region l = l.some.items ≡ open_of (take l.region-index l.regions)
