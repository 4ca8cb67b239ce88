use Rattle.hb_grammar.proofs.SameLemmas.{Same_refl, Same_trans, Same-Joined, Same-EitherOf}
use Rattle.shell_line.proofs.piece.number_end_parts.Goals as goal

pub returns : goal.returns
returns c =
    let padded = Same_trans _ _ _ c.new-padded.ensures (Same-Joined _ _ _ _ c.numeral-number.ensures (Same_refl _)) in
    Same_trans _ _ _ c.new.ensures (Same-EitherOf _ _ _ _ c.new-alone.ensures padded)
