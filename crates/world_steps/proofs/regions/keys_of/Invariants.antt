use Rattle.std.proofs.Common.{◌≡◌, map, take}
use Rattle.plain_model.specs.Keys.{key_of}
use Rattle.world_steps.proofs.regions.keys_of.Given as goal

abbrev pub invariant-loop-region : goal.invariant-loop-region
invariant-loop-region l = l.keys.items ≡ map key_of (take l.region-index l.regions)
