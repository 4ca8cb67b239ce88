use Rattle.std.proofs.Common.{rules, arith, [], ◌∷◌}
use Rattle.std.proofs.lemmas.Grind.{common_steps}
use Rattle.wire_fields.specs.Fields.{number}
use Rattle.manifest_writers.specs.Written.{family_files_bytes, by_family}
use Rattle.manifest_writers.proofs.Repeats.{bytes_repeated_then}
use Rattle.manifest_writers.proofs.region.region_manifest_message.Goals as goal

pub returns : goal.returns
returns c =
    rw (bytes_repeated_then family_files_bytes 3 (by_family c.args.region.now.files) ((100, number c.args.region.now.seq) ∷ []))
    (first_of (search rules, grind (arith, common_steps)))
