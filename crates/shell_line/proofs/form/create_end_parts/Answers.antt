use Rattle.hb_grammar.proofs.SameLemmas.{Same_refl, Same_trans, Same-EitherOf}
use Rattle.shell_line.proofs.form.create_end_parts.Goals as goal

pub returns : goal.returns
returns c =
    let words = Same_trans _ _ _ c.new-words.ensures (Same-EitherOf _ _ _ _ c.versions.ensures c.splits.ensures) in
    Same_trans _ _ _ c.new.ensures (Same-EitherOf _ _ _ _ (Same_refl _) words)
