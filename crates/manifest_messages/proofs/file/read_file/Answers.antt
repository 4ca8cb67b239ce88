use Rattle.std.proofs.lemmas.Result.{err_from_is_err_and}
use Rattle.field_rules.specs.Values.{Inner}
use Rattle.field_reader.proofs.Records.{IsRecord-told, RecordFault-fields, RecordFault-told}
use Rattle.snapshot_records.specs.Files.{file_rules, file_made}
use Rattle.snapshot_records.specs.Reference.{IsReferenceMessage}
use Rattle.manifest_messages.proofs.Nevers.{file_needs}
use Rattle.manifest_messages.proofs.file.read_file.Goals as goal

pub returns-in_err-name-clause-fault : goal.returns-in_err-name-clause-fault
returns-in_err-name-clause-fault c =
    let p = err_from_is_err_and c.from_residual.result c.from_residual.ensures.1 in
    rw (p.1, p.2) (RecordFault-fields _ file_rules (λ s. (s.0.value, (s.1.0.value, s.1.1.value))) _ file_made c.args.bytes.now c.args.place (λ parts s is. is) _ c.in_err-name.ensures.fault)

pub returns-clause-found : goal.returns-clause-found
returns-clause-found c =
    IsRecord-told file_rules file_made c.args.bytes.now (c.in_ok-name.name.value, (c.in_ok-name.reference.value, c.in_ok-name.size.value)) c.told.result c.in_ok-name.ensures.found (rw c.file_made-made.ensures at c.told.ensures.found)

pub returns-clause-fault : goal.returns-clause-fault
returns-clause-fault c =
    let found = c.in_ok-name.ensures.found in
    RecordFault-told file_rules file_rules (λ v. v) _ file_made c.args.bytes.now c.args.place (λ parts v is. is) (c.in_ok-name.name.value, (c.in_ok-name.reference.value, c.in_ok-name.size.value)) c.told.result found
    (file_needs (Inner IsReferenceMessage) found.0 (c.in_ok-name.name.value, (c.in_ok-name.reference.value, c.in_ok-name.size.value)) found.2.1.0) (rw c.file_made-made.ensures at c.told.ensures.fault)
