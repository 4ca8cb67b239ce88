use Rattle.hb_grammar.proofs.SameLemmas.{Same_trans, Same-Joined, Same-EitherOf}
use Rattle.shell_line.proofs.line_form.deleted_parts.Goals as goal

pub returns : goal.returns
returns c =
    let of_column = Same_trans _ _ _ c.new-of_column.ensures (Same-Joined _ _ _ _ c.item-column.ensures c.version_stamp.ensures) in
    let of_family = Same_trans _ _ _ c.new-of_family.ensures (Same-Joined _ _ _ _ c.item-family.ensures c.stamp.ensures) in
    Same_trans _ _ _ c.new.ensures (Same-EitherOf _ _ _ _ of_column of_family)
