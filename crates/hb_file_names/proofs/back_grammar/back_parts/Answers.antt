use Rattle.hb_grammar.proofs.SameLemmas.{Same_trans, Same-Joined, Same-Marked, Avoids-Same}
use Rattle.hb_file_names.proofs.FreeLemmas.{Avoids-IsEncoded_dot}
use Rattle.hb_file_names.proofs.back_grammar.back_parts.Goals as goal

pub new-region-requires : goal.new-region-requires
new-region-requires c = Avoids-Same _ _ 46 c.encoded_grammar.ensures Avoids-IsEncoded_dot

pub returns : goal.returns
returns c =
    let region = Same_trans _ _ _ c.new-region.ensures (Same-Marked _ _ _ c.encoded_grammar.ensures) in
    Same_trans _ _ _ c.new.ensures (Same-Joined _ _ _ _ region c.qualifier_grammar.ensures)
