use Rattle.std.proofs.Common.{arith, ap, ◌∙◌, sym}
use Rattle.std.proofs.lemmas.Result.{err_from_is_err_and}
use Rattle.wire_fields.specs.Fields.{part_of}
use Rattle.field_reader.proofs.Walks.{FieldsFault-cut, FieldsFault-wrong, IsInside-place, used_len, value_len-le}
use Rattle.field_reader.proofs.walk.read_fields.Goals as goal

pub returns-in_default-clause-fault : goal.returns-in_default-clause-fault
returns-in_default-clause-fault g c =
    FieldsFault-cut g.S.Fields.rules g.S.Fields.wrong c.args.bytes.now c.args.place c.loop-at.at c.loop-at.fields c.loop-at.invariant c.loop-at-test.true c.in_default.ensures.only

pub overflow_sub-met : goal.overflow_sub-met
overflow_sub-met g c =
    let part = part_of c.args.bytes.now c.in-Ok.field.value in
    let used = used_len c.args.bytes.now c.loop-at.at c.in-Ok.used c.in-Ok.field.number part c.in-Ok.ensures.within c.in-Ok.ensures.found.2 in
    let most = value_len-le c.in-Ok.field.number part in
    omega (arith, c.value_len.ensures)

pub add-requires : goal.add-requires
add-requires g c =
    IsInside-place c.args.bytes.now c.args.place c.loop-at.at c.in-Ok.used c.in-Ok.field.number c.value_len.result (part_of c.args.bytes.now c.in-Ok.field.value) c.requires c.in-Ok.ensures.within c.in-Ok.ensures.found.2 c.value_len.ensures

pub returns-in_err-add-clause-fault : goal.returns-in_err-add-clause-fault
returns-in_err-add-clause-fault g c =
    let p = err_from_is_err_and c.from_residual.result c.from_residual.ensures.1 in
    rw (p.1, p.2) (FieldsFault-wrong g.S.Fields.rules g.S.Fields.wrong c.args.bytes.now c.args.place c.loop-at.at c.in-Ok.used c.in-Ok.field.number c.value_len.result (part_of c.args.bytes.now c.in-Ok.field.value) c.loop-at.fields _
    c.loop-at.invariant c.in-Ok.ensures.within c.in-Ok.ensures.found.0 c.in-Ok.ensures.found.1 c.in-Ok.ensures.found.2 c.value_len.ensures c.in_err-add.ensures.fault)
