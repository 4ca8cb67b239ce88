use Rattle.std.proofs.lemmas.Result.{err_from_is_err_and}
use Rattle.field_reader.proofs.Records.{IsRecord-told, RecordFault-fields, RecordFault-told}
use Rattle.snapshot_records.specs.TableMessage.{table_rules, table_made}
use Rattle.snapshot_messages.proofs.Nevers.{table_needs}
use Rattle.snapshot_messages.proofs.table.read_table.Goals as goal

pub returns-in_err-namespace-clause-fault : goal.returns-in_err-namespace-clause-fault
returns-in_err-namespace-clause-fault c =
    let p = err_from_is_err_and c.from_residual.result c.from_residual.ensures.1 in
    rw (p.1, p.2) (RecordFault-fields _ table_rules (λ s. (s.0.value, s.1.value)) _ table_made c.args.bytes.now c.args.place (λ parts s is. is) _ c.in_err-namespace.ensures.fault)

pub returns-clause-found : goal.returns-clause-found
returns-clause-found c =
    IsRecord-told table_rules table_made c.args.bytes.now (c.in_ok-namespace.namespace.value, c.in_ok-namespace.name.value) c.told.result c.in_ok-namespace.ensures.found (rw c.table_made.ensures at c.told.ensures.found)

pub returns-clause-fault : goal.returns-clause-fault
returns-clause-fault c =
    RecordFault-told table_rules table_rules (λ v. v) _ table_made c.args.bytes.now c.args.place (λ parts v is. is) (c.in_ok-namespace.namespace.value, c.in_ok-namespace.name.value) c.told.result c.in_ok-namespace.ensures.found
    (λ id e. absurd (table_needs (c.in_ok-namespace.namespace.value, c.in_ok-namespace.name.value) id e)) (rw c.table_made.ensures at c.told.ensures.fault)
