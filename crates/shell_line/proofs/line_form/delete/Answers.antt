use Rattle.hb_grammar.proofs.SameLemmas.{Same_trans, Same-Joined}
use Rattle.shell_line.proofs.line_form.delete.Goals as goal

pub returns : goal.returns
returns c =
    let rest = Same_trans _ _ _ c.new-rest.ensures (Same-Joined _ _ _ _ c.item-row.ensures c.deleted.ensures) in
    Same_trans _ _ _ c.new.ensures (Same-Joined _ _ _ _ c.quoted-table.ensures rest)
