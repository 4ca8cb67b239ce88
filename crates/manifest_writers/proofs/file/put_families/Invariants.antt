use Rattle.std.proofs.Common.{◌≡◌, ◌++◌, length}
use Rattle.std.specs.List.{flat_map}
use Rattle.wire_fields.specs.Fields.{text, field_bytes}
use Rattle.manifest_writers.specs.Written.{family_files_bytes, by_family}
use Rattle.manifest_writers.proofs.file.put_families.Given as goal

-- with the fields of the files that are left, those of all stand behind what stood there
abbrev pub invariant-loop-first : goal.invariant-loop-first
invariant-loop-first l =
    l.out ++ flat_map (λ f. field_bytes 3 (text (family_files_bytes f))) (by_family l.rest)
    ≡ l.initial.out ++ flat_map (λ f. field_bytes 3 (text (family_files_bytes f))) (by_family l.files)

abbrev pub decreases-loop-first : goal.decreases-loop-first
decreases-loop-first l = length l.rest
