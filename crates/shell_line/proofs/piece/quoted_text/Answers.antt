use Rattle.hb_grammar.proofs.SameLemmas.{Same_trans, Same-Marked, Avoids-Same}
use Rattle.shell_line.proofs.PieceLemmas.{Avoids-IsText}
use Rattle.shell_line.proofs.piece.quoted_text.Goals as goal

pub new-requires : goal.new-requires
new-requires c = Avoids-Same _ _ 39 c.new-text.ensures (Avoids-IsText c.args.argument)

pub returns : goal.returns
returns c = Same_trans _ _ _ c.new.ensures (Same-Marked _ _ _ c.new-text.ensures)
