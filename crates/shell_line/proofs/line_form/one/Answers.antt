use Rattle.hb_grammar.proofs.SameLemmas.{Same_refl, Same_trans, Same-Joined}
use Rattle.shell_line.proofs.line_form.one.Goals as goal

pub returns : goal.returns
returns c = Same_trans _ _ _ c.new.ensures (Same-Joined _ _ _ _ c.quoted-first.ensures (Same_refl _))
