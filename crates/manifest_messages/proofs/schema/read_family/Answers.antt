use Rattle.std.proofs.lemmas.Result.{err_from_is_err_and}
use Rattle.field_reader.proofs.Records.{IsRecord-told, RecordFault-fields, RecordFault-told}
use Rattle.snapshot_records.specs.Schema.{family_rules, family_made}
use Rattle.manifest_messages.proofs.Nevers.{family_needs}
use Rattle.manifest_messages.proofs.schema.read_family.Goals as goal

pub returns-in_err-name-clause-fault : goal.returns-in_err-name-clause-fault
returns-in_err-name-clause-fault c =
    let p = err_from_is_err_and c.from_residual.result c.from_residual.ensures.1 in
    rw (p.1, p.2) (RecordFault-fields _ family_rules (λ s. (s.0.value, s.1.values)) _ family_made c.args.bytes.now c.args.place (λ parts s is. is) _ c.in_err-name.ensures.fault)

pub returns-clause-found : goal.returns-clause-found
returns-clause-found c =
    IsRecord-told family_rules family_made c.args.bytes.now (c.in_ok-name.name.value, c.in_ok-name.counts.values) c.told.result c.in_ok-name.ensures.found (rw c.family_made-made.ensures at c.told.ensures.found)

pub returns-clause-fault : goal.returns-clause-fault
returns-clause-fault c =
    RecordFault-told family_rules family_rules (λ v. v) _ family_made c.args.bytes.now c.args.place (λ parts v is. is) (c.in_ok-name.name.value, c.in_ok-name.counts.values) c.told.result c.in_ok-name.ensures.found
    (λ id e. absurd (family_needs (c.in_ok-name.name.value, c.in_ok-name.counts.values) id e)) (rw c.family_made-made.ensures at c.told.ensures.fault)
