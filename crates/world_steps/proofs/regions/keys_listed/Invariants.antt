use Rattle.std.proofs.Common.{◌≡◌, Bool, map, take}
use Rattle.hb_records.specs.declared.region_info.RegionInfo.{RegionInfo}
use Rattle.plain_model.specs.Keys.{key_of}
use Rattle.world_steps.proofs.regions.keys_listed.Given as goal

abbrev pub invariant-loop-region : goal.invariant-loop-region
invariant-loop-region l = l.keys.items ≡ map (λ (x : RegionInfo × Bool). key_of x.0) (take l.region-index l.regions)
