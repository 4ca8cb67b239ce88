use Rattle.hb_grammar.proofs.SameLemmas.{Same_refl, Same_trans, Same-Joined}
use Rattle.hb_file_names.proofs.file_grammar.file_parts.Goals as goal

pub returns : goal.returns
returns c =
    let rest = Same_trans _ _ _ c.new-rest.ensures (Same-Joined _ _ _ _ (Same_refl _) c.suffix_grammar.ensures) in
    Same_trans _ _ _ c.new.ensures (Same-Joined _ _ _ _ (Same_refl _) rest)
