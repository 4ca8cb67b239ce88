use Rattle.hb_grammar.proofs.SameLemmas.{Same_trans, Same-Joined, Same-Marked, Avoids-Same}
use Rattle.hb_file_names.proofs.FreeLemmas.{Avoids-IsTableName, Avoids-IsEncoded_dash}
use Rattle.hb_file_names.proofs.link_grammar.link_parts.Goals as goal

pub new-table-requires : goal.new-table-requires
new-table-requires c = Avoids-Same _ _ 61 c.qualifier_grammar.ensures Avoids-IsTableName

pub new-region-requires : goal.new-region-requires
new-region-requires c = Avoids-Same _ _ 45 c.encoded_grammar.ensures Avoids-IsEncoded_dash

pub returns : goal.returns
returns c =
    let table = Same_trans _ _ _ c.new-table.ensures (Same-Marked _ _ _ c.qualifier_grammar.ensures) in
    let region = Same_trans _ _ _ c.new-region.ensures (Same-Marked _ _ _ c.encoded_grammar.ensures) in
    let rest = Same_trans _ _ _ c.new-rest.ensures (Same-Joined _ _ _ _ region c.file_grammar.ensures) in
    Same_trans _ _ _ c.new.ensures (Same-Joined _ _ _ _ table rest)
