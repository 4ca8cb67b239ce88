use Rattle.hb_grammar.proofs.SameLemmas.{Same_trans, Same-Joined}
use Rattle.shell_line.proofs.form.version_parts.Goals as goal

pub returns : goal.returns
returns c = Same_trans _ _ _ c.new.ensures (Same-Joined _ _ _ _ c.lead-quote.ensures c.new-word.ensures)
