use Rattle.std.proofs.Common.{arith}
use Rattle.hb_grammar.proofs.NumeralLemmas.{Same-IsNumeral}
use Rattle.hb_grammar.proofs.between.Between.new.Goals as goal

pub returns : goal.returns
returns c = Same-IsNumeral _ _ (omega arith)
