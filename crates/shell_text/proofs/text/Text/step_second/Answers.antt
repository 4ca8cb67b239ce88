use Rattle.std.proofs.Common.{◌≡◌, None, sym, subst, ℕ, ◌+◌, ◌*◌}
use Rattle.shell_text.specs.Argument.{next}
use Rattle.shell_text.proofs.TextLemmas.{Refuses-second_digit}
use Rattle.shell_text.proofs.text.Text.step_second.Goals as goal

pub returns-in-None-clause-stops : goal.returns-in-None-clause-stops
returns-in-None-clause-stops c =
    Refuses-second_digit c.args.argument c.args.high c.args.byte (sym c.if-not-has.ensures)
    (subst (λ (value : ℕ). next c.args.argument (16 * c.args.high + value) ≡ None) c.digit_value.ensures.value (sym c.in-None.ensures))
