use Rattle.std.proofs.Common.{arith}
use Rattle.hb_grammar.proofs.NumeralLemmas.{Avoids-IsNumeral}
use Rattle.hb_grammar.proofs.SameLemmas.{Same_trans, Same-Marked, Avoids-Same}
use Rattle.shell_line.proofs.piece.numeral.Goals as goal

pub new-requires : goal.new-requires
new-requires c =
    Avoids-Same _ _ c.args.mark c.new-number.ensures
    (Avoids-IsNumeral c.args.low c.args.max c.args.mark (omega arith) c.requires.digit)

pub returns : goal.returns
returns c = Same_trans _ _ _ c.new.ensures (Same-Marked _ _ _ c.new-number.ensures)
