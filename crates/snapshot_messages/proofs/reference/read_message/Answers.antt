use Rattle.std.proofs.lemmas.Result.{err_from_is_err_and}
use Rattle.field_reader.proofs.Records.{IsRecord-told, RecordFault-fields, RecordFault-told}
use Rattle.snapshot_records.specs.Reference.{reference_rules, reference_made}
use Rattle.snapshot_messages.proofs.Nevers.{reference_needs}
use Rattle.snapshot_messages.proofs.reference.read_message.Goals as goal

pub returns-in_err-row-clause-fault : goal.returns-in_err-row-clause-fault
returns-in_err-row-clause-fault c =
    let p = err_from_is_err_and c.from_residual.result c.from_residual.ensures.1 in
    rw (p.1, p.2) (RecordFault-fields _ reference_rules (λ s. (s.0.value, s.1.value)) _ reference_made c.args.bytes.now c.args.place (λ parts s is. is) _ c.in_err-row.ensures.fault)

pub returns-clause-found : goal.returns-clause-found
returns-clause-found c =
    IsRecord-told reference_rules reference_made c.args.bytes.now (c.in_ok-row.row.value, c.in_ok-row.top.value) c.told.result c.in_ok-row.ensures.found (rw c.reference_made.ensures at c.told.ensures.found)

pub returns-clause-fault : goal.returns-clause-fault
returns-clause-fault c =
    RecordFault-told reference_rules reference_rules (λ v. v) _ reference_made c.args.bytes.now c.args.place (λ parts v is. is) (c.in_ok-row.row.value, c.in_ok-row.top.value) c.told.result c.in_ok-row.ensures.found
    (λ id e. absurd (reference_needs (c.in_ok-row.row.value, c.in_ok-row.top.value) id e)) (rw c.reference_made.ensures at c.told.ensures.fault)
