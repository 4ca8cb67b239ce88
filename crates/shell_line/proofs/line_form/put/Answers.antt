use Rattle.hb_grammar.proofs.SameLemmas.{Same_trans, Same-Joined}
use Rattle.shell_line.proofs.line_form.put.Goals as goal

pub returns : goal.returns
returns c =
    let cell = Same_trans _ _ _ c.new-cell.ensures (Same-Joined _ _ _ _ c.item-column.ensures c.put_value.ensures) in
    let rest = Same_trans _ _ _ c.new-rest.ensures (Same-Joined _ _ _ _ c.item-row.ensures cell) in
    Same_trans _ _ _ c.new.ensures (Same-Joined _ _ _ _ c.quoted-table.ensures rest)
