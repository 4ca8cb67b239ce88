use Rattle.std.proofs.Common.{◌≡◌, false, sym, subst, ℕ}
use Rattle.shell_text.specs.Text.{is_open_at}
use Rattle.shell_text.proofs.TextLemmas.{Refuses-first_digit}
use Rattle.shell_text.proofs.text.Text.step_first.Goals as goal

pub returns-else-is_open_at-clause-stops : goal.returns-else-is_open_at-clause-stops
returns-else-is_open_at-clause-stops c =
    Refuses-first_digit c.args.argument c.args.byte (sym c.if-not-has.ensures)
    (subst (λ (high : ℕ). is_open_at c.args.argument high ≡ false) c.digit_value-high.ensures.value (sym c.if-is_open_at.ensures))
