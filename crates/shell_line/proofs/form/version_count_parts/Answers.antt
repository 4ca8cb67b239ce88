use Rattle.hb_grammar.proofs.SameLemmas.{Same_trans, Same-Joined, Same-EitherOf}
use Rattle.shell_line.proofs.form.version_count_parts.Goals as goal

pub returns : goal.returns
returns c =
    let more = Same_trans _ _ _ c.new-more.ensures (Same-Joined _ _ _ _ c.numeral-number.ensures c.splits.ensures) in
    Same_trans _ _ _ c.new.ensures (Same-EitherOf _ _ _ _ c.number_end-alone.ensures more)
