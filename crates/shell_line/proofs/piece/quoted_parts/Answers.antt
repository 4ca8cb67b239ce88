use Rattle.hb_grammar.proofs.SameLemmas.{Same_trans, Same-Joined}
use Rattle.shell_line.proofs.piece.quoted_parts.Goals as goal

pub returns : goal.returns
returns c = Same_trans _ _ _ c.new.ensures (Same-Joined _ _ _ _ c.lead-front.ensures c.quoted_text-text.ensures)
