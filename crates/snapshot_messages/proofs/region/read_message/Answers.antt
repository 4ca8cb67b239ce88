use Rattle.std.proofs.lemmas.Result.{err_from_is_err_and}
use Rattle.field_reader.proofs.Records.{IsRecord-told, RecordFault-fields, RecordFault-told}
use Rattle.snapshot_records.specs.RegionInfo.{region_rules, region_made}
use Rattle.snapshot_messages.proofs.Nevers.{region_needs}
use Rattle.snapshot_messages.proofs.region.read_message.Goals as goal

pub returns-in_err-id-clause-fault : goal.returns-in_err-id-clause-fault
returns-in_err-id-clause-fault c =
    let p = err_from_is_err_and c.from_residual.result c.from_residual.ensures.1 in
    rw (p.1, p.2) (RecordFault-fields _ region_rules (λ s. (s.0.value, (s.1.0.value, (s.1.1.0.value, s.1.1.1.value)))) _ region_made c.args.bytes.now c.args.place (λ parts s is. is) _ c.in_err-id.ensures.fault)

pub returns-clause-found : goal.returns-clause-found
returns-clause-found c =
    IsRecord-told region_rules region_made c.args.bytes.now (c.in_ok-id.id.value, (c.in_ok-id.table.value, (c.in_ok-id.start.value, c.in_ok-id.end.value))) c.told.result c.in_ok-id.ensures.found (rw c.region_made-made.ensures at c.told.ensures.found)

pub returns-clause-fault : goal.returns-clause-fault
returns-clause-fault c =
    RecordFault-told region_rules region_rules (λ v. v) _ region_made c.args.bytes.now c.args.place (λ parts v is. is) (c.in_ok-id.id.value, (c.in_ok-id.table.value, (c.in_ok-id.start.value, c.in_ok-id.end.value))) c.told.result c.in_ok-id.ensures.found
    (λ id e. absurd (region_needs (c.in_ok-id.id.value, (c.in_ok-id.table.value, (c.in_ok-id.start.value, c.in_ok-id.end.value))) id e)) (rw c.region_made-made.ensures at c.told.ensures.fault)
