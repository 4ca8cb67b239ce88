use Rattle.std.proofs.lemmas.Result.{err_from_is_err_and}
use Rattle.field_reader.proofs.Records.{IsRecord-told, RecordFault-fields, RecordFault-told}
use Rattle.snapshot_records.specs.Schema.{schema_rules, schema_made}
use Rattle.manifest_messages.proofs.Nevers.{schema_needs}
use Rattle.manifest_messages.proofs.schema.read_schema.Goals as goal

pub returns-in_err-table-clause-fault : goal.returns-in_err-table-clause-fault
returns-in_err-table-clause-fault c =
    let p = err_from_is_err_and c.from_residual.result c.from_residual.ensures.1 in
    rw (p.1, p.2) (RecordFault-fields _ schema_rules (λ s. (s.0.value, s.1.values)) _ schema_made c.args.bytes.now c.args.place (λ parts s is. is) _ c.in_err-table.ensures.fault)

pub returns-clause-found : goal.returns-clause-found
returns-clause-found c =
    IsRecord-told schema_rules schema_made c.args.bytes.now (c.in_ok-table.table.value, c.in_ok-table.families.values) c.told.result c.in_ok-table.ensures.found (rw c.schema_made-made.ensures at c.told.ensures.found)

pub returns-clause-fault : goal.returns-clause-fault
returns-clause-fault c =
    RecordFault-told schema_rules schema_rules (λ v. v) _ schema_made c.args.bytes.now c.args.place (λ parts v is. is) (c.in_ok-table.table.value, c.in_ok-table.families.values) c.told.result c.in_ok-table.ensures.found
    (λ id e. absurd (schema_needs (c.in_ok-table.table.value, c.in_ok-table.families.values) id e)) (rw c.schema_made-made.ensures at c.told.ensures.fault)
