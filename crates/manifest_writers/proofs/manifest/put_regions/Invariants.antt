use Rattle.std.proofs.Common.{◌≡◌, ◌++◌, take}
use Rattle.std.specs.List.{flat_map}
use Rattle.wire_fields.specs.Fields.{text, field_bytes}
use Rattle.manifest_writers.specs.Written.{region_manifest_bytes}
use Rattle.manifest_writers.proofs.manifest.put_regions.Given as goal

-- the fields of the regions before the index stand behind what stood there
abbrev pub invariant-loop-region : goal.invariant-loop-region
invariant-loop-region l = l.out ≡ l.initial.out ++ flat_map (λ r. field_bytes 2 (text (region_manifest_bytes r))) (take l.region-index l.regions)
