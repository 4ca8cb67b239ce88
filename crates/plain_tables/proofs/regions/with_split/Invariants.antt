use Rattle.std.proofs.Common.{◌≡◌, take}
use Rattle.plain_model.specs.TableEvents.{with_split}
use Rattle.plain_tables.proofs.regions.with_split.Given as goal

abbrev pub invariant-loop-region : goal.invariant-loop-region
invariant-loop-region l = l.all.items ≡ with_split l.names (take l.region-index l.regions)
