use Rattle.std.proofs.Common.{arith}
use Rattle.std.proofs.lemmas.Bool.Decides.{nat_tests}
use Rattle.hb_grammar.proofs.BetweenLemmas.{Shifts-more, Reaches-Shifts, Reaches-full}
use Rattle.hb_grammar.proofs.TestLemmas.{decided}
use Rattle.hb_grammar.proofs.between.can_reach.Goals as goal

pub loop-front-preserved : goal.loop-front-preserved
loop-front-preserved c = let test = c.loop-front-test.true in Shifts-more _ _ _ _ c.loop-front.invariant (omega arith)

pub returns : goal.returns
returns c =
    let test = c.loop-front-test.false in
    let left = c.saturating_sub.ensures in
    let shifts = c.loop-front.invariant in
    decided _ (λ e. Reaches-Shifts _ _ _ _ _ shifts (omega (arith, c.if-value-eq0.false)) (grind (arith, nat_tests))) (λ e. Reaches-full _ _ _ _ _ shifts (omega arith) (grind (arith, nat_tests)))
