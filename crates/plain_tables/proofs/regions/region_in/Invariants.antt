use Rattle.std.proofs.Common.{◌≡◌, drop}
use Rattle.plain_model.specs.LiveEvents.{region_in}
use Rattle.plain_tables.proofs.regions.region_in.Given as goal

-- the regions passed have other names
abbrev pub invariant-loop-region : goal.invariant-loop-region
invariant-loop-region l = region_in (drop l.region-index l.regions) l.name ≡ region_in l.regions l.name
