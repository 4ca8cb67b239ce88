use Rattle.std.proofs.Common.{◌≡◌, drop}
use Rattle.plain_model.specs.Rows.{region_of}
use Rattle.plain_tables.proofs.regions.region_of.Given as goal

-- the regions passed don't hold the row, or are split
abbrev pub invariant-loop-region : goal.invariant-loop-region
invariant-loop-region l = region_of (drop l.region-index l.regions) l.row ≡ region_of l.regions l.row
