use Rattle.std.proofs.lemmas.Result.{err_from_is_err_and}
use Rattle.field_reader.proofs.Records.{IsRecord-told, RecordFault-fields, RecordFault-told}
use Rattle.snapshot_records.specs.Manifest.{manifest_rules, manifest_made}
use Rattle.manifest_messages.proofs.Nevers.{manifest_needs}
use Rattle.manifest_messages.proofs.manifest.read_manifest.Goals as goal

pub returns-in_err-schema-clause-fault : goal.returns-in_err-schema-clause-fault
returns-in_err-schema-clause-fault c =
    let p = err_from_is_err_and c.from_residual.result c.from_residual.ensures.1 in
    rw (p.1, p.2) (RecordFault-fields _ manifest_rules (λ s. (s.0.value, s.1.values)) _ manifest_made c.args.bytes.now 0 (λ parts s is. is) _ c.in_err-schema.ensures.fault)

pub returns-clause-found : goal.returns-clause-found
returns-clause-found c =
    IsRecord-told manifest_rules manifest_made c.args.bytes.now (c.in_ok-schema.schema.value, c.in_ok-schema.regions.values) c.told.result c.in_ok-schema.ensures.found (rw c.manifest_made-made.ensures at c.told.ensures.found)

pub returns-clause-fault : goal.returns-clause-fault
returns-clause-fault c =
    RecordFault-told manifest_rules manifest_rules (λ v. v) _ manifest_made c.args.bytes.now 0 (λ parts v is. is) (c.in_ok-schema.schema.value, c.in_ok-schema.regions.values) c.told.result c.in_ok-schema.ensures.found
    (λ id e. absurd (manifest_needs (c.in_ok-schema.schema.value, c.in_ok-schema.regions.values) id e)) (rw c.manifest_made-made.ensures at c.told.ensures.fault)
