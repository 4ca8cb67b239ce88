use Rattle.hb_grammar.proofs.SameLemmas.{Same_trans, Same-Joined}
use Rattle.shell_line.proofs.line_form.put_value_parts.Goals as goal

pub returns : goal.returns
returns c = Same_trans _ _ _ c.new.ensures (Same-Joined _ _ _ _ c.item-value.ensures c.stamp.ensures)
