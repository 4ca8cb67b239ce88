use Rattle.hb_grammar.proofs.BetweenLemmas.{Reaches-DigitsBetween}
use Rattle.hb_grammar.proofs.TestLemmas.{refused}
use Rattle.hb_grammar.proofs.between.behind.Goals as goal

pub returns-else-can_reach-clause-stops : goal.returns-else-can_reach-clause-stops
returns-else-can_reach-clause-stops c live =
    refused c.can_reach.ensures c.if-can_reach.false (Reaches-DigitsBetween _ _ _ live.0 live.1)
