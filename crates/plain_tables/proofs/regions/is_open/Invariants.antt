use Rattle.std.proofs.Common.{◌≡◌, drop}
use Rattle.plain_tables.specs.IsOpen.{is_open_in}
use Rattle.plain_tables.proofs.regions.is_open.Given as goal

-- the regions passed have other names, or are split
abbrev pub invariant-loop-region : goal.invariant-loop-region
invariant-loop-region l = is_open_in (drop l.region-index l.regions) l.name ≡ is_open_in l.regions l.name
