use Rattle.std.proofs.Common.{ap, inl, ◌∙◌}
use Rattle.std.proofs.lemmas.Result.{err_from_is_err_and}
use Rattle.field_reader.proofs.Records.{IsRecord-told, RecordFault-fields, RecordFault-told}
use Rattle.snapshot_records.specs.Manifest.{part_rules, part_made}
use Rattle.manifest_messages.specs.Parts.{region_made}
use Rattle.manifest_messages.proofs.Nevers.{part_needs, fault_first}
use Rattle.manifest_messages.proofs.region.read_message.Goals as goal

pub returns-in_err-_version-clause-fault : goal.returns-in_err-_version-clause-fault
returns-in_err-_version-clause-fault c =
    let p = err_from_is_err_and c.from_residual.result c.from_residual.ensures.1 in
    rw (p.1, p.2) (inl (RecordFault-fields _ part_rules (λ s. (s.0.value, (s.1.0.value, (s.1.1.0.values, s.1.1.1.value)))) _ part_made c.args.bytes.now c.args.place (λ parts s is. is) _ c.in_err-_version.ensures.fault))

pub returns-clause-found : goal.returns-clause-found
returns-clause-found c =
    let made = c.region_made-made.ensures ∙ ap (λ files. region_made c.in_ok-_version.info.value files c.in_ok-_version.seq.value) c.in_ok-files.ensures in
    IsRecord-told part_rules part_made c.args.bytes.now (c.in_ok-_version._version.value, (c.in_ok-_version.info.value, (c.in_ok-_version.families.values, c.in_ok-_version.seq.value))) c.told.result c.in_ok-_version.ensures.found (rw made at c.told.ensures.found)

pub returns-clause-fault : goal.returns-clause-fault
returns-clause-fault c =
    let made = c.region_made-made.ensures ∙ ap (λ files. region_made c.in_ok-_version.info.value files c.in_ok-_version.seq.value) c.in_ok-files.ensures in
    fault_first c.told.result _ _ (RecordFault-told part_rules part_rules (λ v. v) _ part_made c.args.bytes.now c.args.place (λ parts v is. is) (c.in_ok-_version._version.value, (c.in_ok-_version.info.value, (c.in_ok-_version.families.values, c.in_ok-_version.seq.value))) c.told.result c.in_ok-_version.ensures.found
    (λ id e. absurd (part_needs (c.in_ok-_version._version.value, (c.in_ok-_version.info.value, (c.in_ok-_version.families.values, c.in_ok-_version.seq.value))) id e)) (rw made at c.told.ensures.fault))
