use Rattle.std.proofs.Common.{sym, ◌∙◌, arith}
use Rattle.shell_value.proofs.NumberLemmas.{number-fits}
use Rattle.shell_value.proofs.number.number_of.Goals as goal

pub overflow_mul-number : goal.overflow_mul-number
overflow_mul-number c =
    let fits = number-fits c.args.bytes.now c.loop-byte.byte-index c.loop-byte.number c.loop-byte-test.true (sym c.is_digit.ensures ∙ c.if-is_digit.true) c.loop-byte.invariant c.requires in
    omega (arith, c.unwrap_or-front.ensures)

pub overflow_add-number : goal.overflow_add-number
overflow_add-number c =
    let fits = number-fits c.args.bytes.now c.loop-byte.byte-index c.loop-byte.number c.loop-byte-test.true (sym c.is_digit.ensures ∙ c.if-is_digit.true) c.loop-byte.invariant c.requires in
    omega (arith, c.unwrap_or-front.ensures, c.saturating_sub-digit.ensures)
