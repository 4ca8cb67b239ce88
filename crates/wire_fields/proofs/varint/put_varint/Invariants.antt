use Rattle.wire_fields.specs.Varint.{varint}
use Rattle.wire_fields.proofs.Varints.{IsPut}
use Rattle.wire_fields.proofs.varint.put_varint.Given as goal

-- the bytes so far, and those of the rest behind them, are those of the number
abbrev pub invariant-loop-rest : goal.invariant-loop-rest
invariant-loop-rest l = IsPut l.bytes l.len l.rest (varint l.value)

abbrev pub decreases-loop-rest : goal.decreases-loop-rest
decreases-loop-rest l = l.rest
