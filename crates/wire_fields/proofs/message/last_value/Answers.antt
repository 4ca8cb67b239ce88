use Rattle.std.proofs.Common.{◌≡◌, ap, ◌∙◌, option_map, arith}
use Rattle.std.proofs.lemmas.Grind.{common_steps}
use Rattle.wire_fields.specs.Fields.{part_of}
use Rattle.wire_fields.specs.Message.{last_value}
use Rattle.wire_fields.proofs.Messages.{last_part-last_value, last_then, last_else}
use Rattle.wire_fields.proofs.message.last_value.Goals as goal
use Rattle.wire_fields.proofs.message.last_value.Goals.{then-field-number, else-field-number}

pub loop-field-preserved : goal.loop-field-preserved
loop-field-preserved c =
    elim c.if-field-number.branch [
      | then-field-number w ↦ w.last-is ∙ last_then c.args.number c.args.fields.now c.loop-field.field-index _ c.loop-field.last c.loop-field-test.true c.loop-field.invariant w.if-field-number.true
      | else-field-number w ↦ w.last-is ∙ last_else c.args.number c.args.fields.now c.loop-field.field-index _ c.loop-field.last c.loop-field-test.true c.loop-field.invariant w.if-field-number.false
    ]

pub returns-clause-part : goal.returns-clause-part
returns-clause-part c = λ bytes.
    let exact : c.loop-field.last ≡ last_value c.args.number c.args.fields.now = grind (arith, common_steps) in
    ap (option_map (part_of bytes)) exact ∙ last_part-last_value bytes c.args.number c.args.fields.now
