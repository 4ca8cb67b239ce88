use Rattle.std.proofs.Common.{length, ◌-◌}
use Rattle.commit_line.specs.Rows.{AreRows}
use Rattle.region_set.specs.RegionLine.{IsRegionBehind, region_text}
use Rattle.region_set.proofs.regions.read_regions.Given as goal

abbrev pub invariant-loop-place : goal.invariant-loop-place
invariant-loop-place l = AreRows (IsRegionBehind l.table) region_text l.bytes l.fn.at l.regions.items l.place

abbrev pub decreases-loop-place : goal.decreases-loop-place
decreases-loop-place l = length l.bytes - l.place
