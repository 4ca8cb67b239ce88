use Rattle.std.proofs.Common.{◌≡◌, ◌++◌, take}
use Rattle.std.specs.List.{flat_map}
use Rattle.region_set.specs.RegionLine.{region_text}
use Rattle.region_set.proofs.region_set.add_regions.Given as goal

-- the lines so far are those of the regions before the index
abbrev pub invariant-loop-region : goal.invariant-loop-region
invariant-loop-region l = l.text ≡ l.fn.text ++ flat_map region_text (take l.region-index l.regions)
