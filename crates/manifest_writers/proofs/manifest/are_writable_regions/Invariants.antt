use Rattle.std.proofs.Common.{take}
use Rattle.std.specs.List.{AllByRecursion}
use Rattle.manifest_writers.specs.Writable.{IsWritableRegionManifest}
use Rattle.manifest_writers.proofs.manifest.are_writable_regions.Given as goal

-- the regions before the index are right
abbrev pub invariant-loop-region : goal.invariant-loop-region
invariant-loop-region l = AllByRecursion IsWritableRegionManifest (take l.region-index l.regions)
