use Rattle.std.proofs.Common.{◌≡◌, ℕ, List, IfOk, sym, ◌∙◌, subst}
use Rattle.shell_value.proofs.UnescapeLemmas.{meant-plain}
use Rattle.shell_value.proofs.argument_value.value_of.Goals as goal

pub returns-else-has_escape : goal.returns-else-has_escape
returns-else-has_escape c =
    let text = c.args.text.now in
    subst (λ (bytes : List ℕ). IfOk c.copy_of.result (λ value. value ≡ bytes))
    (sym (meant-plain text (sym c.has_escape.ensures ∙ c.if-has_escape.false) c.requires)) c.copy_of.ensures
