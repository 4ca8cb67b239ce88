use Rattle.std.proofs.Common.{map, option_map}
use Rattle.wire_fields.proofs.Messages.{texts-more}
use Rattle.wire_fields.proofs.text.texts_of.Goals as goal

pub loop-field-preserved : goal.loop-field-preserved
loop-field-preserved c =
    texts-more c.args.number c.args.bytes.now c.args.fields.now c.loop-field.field-index _ (map (λ t. t.now) c.loop-field.found.items) (map (λ t. t.now) c.add_text.new.texts.items) (option_map (λ t. t.now) c.text_here.result)
    c.loop-field-test.true c.loop-field.invariant c.text_here.ensures c.in_ok-add_text.ensures
