use Rattle.hb_grammar.proofs.SameLemmas.{Same_trans, Same-Joined, Same-EitherOf}
use Rattle.shell_line.proofs.form.stamp_version_parts.Goals as goal

pub returns : goal.returns
returns c =
    let near = Same_trans _ _ _ c.new-near.ensures (Same-Joined _ _ _ _ c.numeral-near_number.ensures c.version.ensures) in
    let word = Same_trans _ _ _ c.new-far_word.ensures (Same-Joined _ _ _ _ c.lead-comma.ensures c.version-2.ensures) in
    let far = Same_trans _ _ _ c.new-far.ensures (Same-Joined _ _ _ _ c.numeral-far_number.ensures word) in
    Same_trans _ _ _ c.new.ensures (Same-EitherOf _ _ _ _ near far)
