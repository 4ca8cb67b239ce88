use Rattle.std.proofs.Common.{◌≡◌, map, take}
use Rattle.wire_fields.specs.Message.{parts_of, texts}
use Rattle.wire_fields.proofs.text.texts_of.Given as goal

-- the texts among the fields before the index
abbrev pub invariant-loop-field : goal.invariant-loop-field
invariant-loop-field l = map (λ t. t.now) l.found.items ≡ texts l.number (parts_of l.bytes (take l.field-index l.fields))
