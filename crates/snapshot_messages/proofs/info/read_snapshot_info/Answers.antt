use Rattle.std.proofs.lemmas.Result.{err_from_is_err_and}
use Rattle.field_reader.proofs.Records.{IsRecord-told, RecordFault-fields, RecordFault-told}
use Rattle.snapshot_records.specs.SnapshotInfo.{info_rules, info_made}
use Rattle.snapshot_messages.proofs.Nevers.{info_needs}
use Rattle.snapshot_messages.proofs.info.read_snapshot_info.Goals as goal

pub returns-in_err-fields-clause-fault : goal.returns-in_err-fields-clause-fault
returns-in_err-fields-clause-fault c =
    let p = err_from_is_err_and c.from_residual.result c.from_residual.ensures.1 in
    rw (p.1, p.2) (RecordFault-fields _ info_rules (λ s. (s.0.value, (s.1.0.value, (s.1.1.0.value, (s.1.1.1.0.value, s.1.1.1.1.value))))) _ info_made c.args.bytes.now 0 (λ parts s is. is) _ c.in_err-fields.ensures.fault)

pub returns-clause-found : goal.returns-clause-found
returns-clause-found c =
    IsRecord-told info_rules info_made c.args.bytes.now (c.in_ok-fields.fields.0.value, (c.in_ok-fields.fields.1.0.value, (c.in_ok-fields.fields.1.1.0.value, (c.in_ok-fields.fields.1.1.1.0.value, c.in_ok-fields.fields.1.1.1.1.value)))) c.told.result c.in_ok-fields.ensures.found (rw c.info_made-made.ensures at c.told.ensures.found)

pub returns-clause-fault : goal.returns-clause-fault
returns-clause-fault c =
    RecordFault-told info_rules info_rules (λ v. v) _ info_made c.args.bytes.now 0 (λ parts v is. is) (c.in_ok-fields.fields.0.value, (c.in_ok-fields.fields.1.0.value, (c.in_ok-fields.fields.1.1.0.value, (c.in_ok-fields.fields.1.1.1.0.value, c.in_ok-fields.fields.1.1.1.1.value)))) c.told.result c.in_ok-fields.ensures.found
    (λ id e. absurd (info_needs (c.in_ok-fields.fields.0.value, (c.in_ok-fields.fields.1.0.value, (c.in_ok-fields.fields.1.1.0.value, (c.in_ok-fields.fields.1.1.1.0.value, c.in_ok-fields.fields.1.1.1.1.value)))) id e)) (rw c.info_made-made.ensures at c.told.ensures.fault)
