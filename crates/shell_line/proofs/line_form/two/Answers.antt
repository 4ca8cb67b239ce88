use Rattle.hb_grammar.proofs.SameLemmas.{Same_refl, Same_trans, Same-Joined}
use Rattle.shell_line.proofs.line_form.two.Goals as goal

pub returns : goal.returns
returns c =
    let rest = Same_trans _ _ _ c.new-rest.ensures (Same-Joined _ _ _ _ c.item-back.ensures (Same_refl _)) in
    Same_trans _ _ _ c.new.ensures (Same-Joined _ _ _ _ c.quoted-front.ensures rest)
