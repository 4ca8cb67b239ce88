use Rattle.std.proofs.Common.{◌+◌, ◌*◌, arith}
use Rattle.wire_fields.proofs.Varints.{below_nine, low_high, byte_small}
use Rattle.wire_fields.proofs.varint.+sevens_at.Goals as goal

pub returns-then-first-lt128-clause-small : goal.returns-then-first-lt128-clause-small
returns-then-first-lt128-clause-small t c = byte_small c.args.more _ (omega arith) c.if-first-lt128.true

pub returns-clause-small : goal.returns-clause-small
returns-clause-small t c = low_high c.args.more _ c.in_ok-high.high (omega arith) (omega (arith, c.type_inv.bytes 0)) c.in_ok-high.ensures.small

pub overflow_add-result : goal.overflow_add-result
overflow_add-result t c = record { fits = below_nine c.args.more _ c.requires (returns-clause-small t c) }

pub overflow_mul-result : goal.overflow_mul-result
overflow_mul-result t c =
    let below = below_nine c.args.more (0 + 128 * c.in_ok-high.high) c.requires (low_high c.args.more 0 c.in_ok-high.high (omega arith) (omega arith) c.in_ok-high.ensures.small) in
    record { fits = omega arith }
