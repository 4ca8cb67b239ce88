use Rattle.std.proofs.Common.{◌≡◌, take}
use Rattle.wire_fields.specs.Message.{last_value}
use Rattle.wire_fields.proofs.message.last_value.Given as goal

-- the last of the fields before the index
abbrev pub invariant-loop-field : goal.invariant-loop-field
invariant-loop-field l = l.last ≡ last_value l.number (take l.field-index l.fields)
