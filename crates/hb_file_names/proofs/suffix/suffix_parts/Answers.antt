use Rattle.hb_grammar.proofs.SameLemmas.{Same_refl, Same_trans, Same-Joined, Same-Marked, Same-EitherOf, Avoids-Same}
use Rattle.hb_file_names.proofs.FreeLemmas.{Avoids-seq}
use Rattle.hb_file_names.proofs.suffix.suffix_parts.Goals as goal

pub new-number-requires : goal.new-number-requires
new-number-requires c = Avoids-Same _ _ 95 c.new.ensures Avoids-seq

pub returns : goal.returns
returns c =
    let number = Same_trans _ _ _ c.new-number.ensures (Same-Marked _ _ _ c.new.ensures) in
    let seq = Same_trans _ _ _ c.new-seq.ensures (Same-Joined _ _ _ _ (Same_refl _) number) in
    Same_trans _ _ _ c.new-2.ensures (Same-EitherOf _ _ _ _ (Same_refl _) seq)
