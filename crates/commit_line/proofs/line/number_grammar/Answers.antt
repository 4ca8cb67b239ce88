use Rattle.std.proofs.Common.{arith, refl}
use Rattle.hb_grammar.proofs.NumeralLemmas.{Avoids-IsNumeral}
use Rattle.hb_grammar.proofs.SameLemmas.{Same_refl, Same_trans, Same-Joined, Same-Marked, Avoids-Same}
use Rattle.commit_line.proofs.NumberLineLemmas.{Same-number_line}
use Rattle.commit_line.proofs.line.number_grammar.Goals as goal

pub new-number-requires : goal.new-number-requires
new-number-requires c =
    let fits = c.ranges.max.fits in Avoids-Same _ _ 10 c.new.ensures (Avoids-IsNumeral c.args.low c.args.max 10 (omega arith) refl)

pub returns : goal.returns
returns c =
    let number = Same_trans _ _ _ c.new-number.ensures (Same-Marked _ _ _ c.new.ensures) in
    Same_trans _ _ _ c.new-2.ensures (Same_trans _ _ _ (Same-Joined _ _ _ _ (Same_refl _) number) (Same-number_line c.args.text.now c.args.low c.args.max))
