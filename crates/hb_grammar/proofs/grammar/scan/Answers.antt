use Rattle.std.proofs.Common.{refl, arith, ◌≡◌, length}
use Rattle.hb_grammar.proofs.GrammarLemmas.{IsFault_refused, IsFault_cut}
use Rattle.hb_grammar.proofs.TestLemmas.{refused}
use Rattle.hb_grammar.proofs.grammar.scan.Goals as goal

pub returns-in-None-clause-fault : goal.returns-in-None-clause-fault
returns-in-None-clause-fault g c =
    IsFault_refused _ _ _ _ _ c.loop-i-test.true refl c.loop-i.invariant (g.G.Grammar.completes c.loop-i.left) c.in-None.ensures.stops

pub returns-else-is_whole-clause-fault : goal.returns-else-is_whole-clause-fault
returns-else-is_whole-clause-fault g c =
    let e : length c.args.bytes.now ≡ c.loop-i.i = omega arith in
    let leaves = c.loop-i.invariant in
    rw e (IsFault_cut _ _ _ _ (omega arith) leaves (g.G.Grammar.completes c.loop-i.left) (refused c.is_whole.ensures c.if-is_whole.false))
