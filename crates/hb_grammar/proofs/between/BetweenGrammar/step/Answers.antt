use Rattle.std.proofs.Common.{arith}
use Rattle.hb_grammar.proofs.BetweenLemmas.{le-DigitsBetween}
use Rattle.hb_grammar.proofs.between.BetweenGrammar.step.Goals as goal

pub returns-in-None-with_digit-clause-stops : goal.returns-in-None-with_digit-clause-stops
returns-in-None-with_digit-clause-stops c = rw c.in-Some.is (λ rest left.
    let bound = le-DigitsBetween _ _ _ rest left.2 in let above = c.in-None-with_digit.ensures.none in absurd (omega arith))
