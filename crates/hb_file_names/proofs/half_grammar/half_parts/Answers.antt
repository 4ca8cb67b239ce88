use Rattle.hb_grammar.proofs.SameLemmas.{Same_trans, Same-Joined, Same-Marked, Avoids-Same}
use Rattle.hb_file_names.proofs.FreeLemmas.{Avoids-IsFileName}
use Rattle.hb_file_names.proofs.half_grammar.half_parts.Goals as goal

pub new-file-requires : goal.new-file-requires
new-file-requires c = Avoids-Same _ _ 46 c.file_grammar.ensures Avoids-IsFileName

pub returns : goal.returns
returns c =
    let file = Same_trans _ _ _ c.new-file.ensures (Same-Marked _ _ _ c.file_grammar.ensures) in
    Same_trans _ _ _ c.new.ensures (Same-Joined _ _ _ _ file c.encoded_grammar.ensures)
