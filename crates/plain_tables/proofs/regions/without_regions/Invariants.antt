use Rattle.std.proofs.Common.{◌≡◌, take}
use Rattle.plain_model.specs.TableEvents.{without_regions}
use Rattle.plain_tables.proofs.regions.without_regions.Given as goal

abbrev pub invariant-loop-region : goal.invariant-loop-region
invariant-loop-region l = l.all.items ≡ without_regions l.names (take l.region-index l.regions)
