use Rattle.std.proofs.Common.{◌≡◌, ◌++◌, take}
use Rattle.std.specs.List.{flat_map}
use Rattle.wire_fields.specs.Fields.{text, field_bytes}
use Rattle.manifest_writers.specs.Written.{family_schema_bytes}
use Rattle.manifest_writers.proofs.schema.put_families.Given as goal

-- the fields of the families before the index stand behind what stood there
abbrev pub invariant-loop-family : goal.invariant-loop-family
invariant-loop-family l = l.out ≡ l.initial.out ++ flat_map (λ f. field_bytes 3 (text (family_schema_bytes f))) (take l.family-index l.families)
