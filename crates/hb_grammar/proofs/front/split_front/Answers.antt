use Rattle.std.proofs.Common.{◌≡◌, ℕ, List, length, refl, arith}
use Rattle.hb_grammar.proofs.GrammarLemmas.{IsFault_refused, IsFault_cut}
use Rattle.hb_grammar.proofs.FrontLemmas.{NoneBelow-push, Leaves-not_nil, IsFrontFault-IsReach, IsAlone-take}
use Rattle.hb_grammar.proofs.TestLemmas.{refused}
use Rattle.hb_grammar.proofs.front.split_front.Goals as goal

pub returns-then-is_whole-clause-alone : goal.returns-then-is_whole-clause-alone
returns-then-is_whole-clause-alone g c =
    let spells : List ℕ → Type 0 = g.G.Grammar.spells c.args.grammar in
    rw c.split_at.ensures.front (IsAlone-take spells _ c.args.bytes.now c.loop-i.i (omega arith) c.loop-i.invariant.0
    (g.met.G.Closed.closed c.loop-i.left (c.is_whole.ensures.0 c.if-is_whole.true)) c.loop-i.invariant.1)

pub returns-in-None-clause-fault : goal.returns-in-None-clause-fault
returns-in-None-clause-fault g c =
    let spells : List ℕ → Type 0 = g.G.Grammar.spells c.args.grammar in
    let leaves = c.loop-i.invariant.0 in
    let fault = IsFault_refused spells _ c.args.bytes.now c.loop-i.i _ c.loop-i-test.true refl leaves (g.G.Grammar.completes c.loop-i.left) c.in-None.ensures.stops in
    IsFrontFault-IsReach spells c.args.bytes.now c.loop-i.i fault.reach
    (NoneBelow-push spells c.args.bytes.now c.loop-i.i c.loop-i.invariant.1
    (Leaves-not_nil spells _ _ leaves (refused c.is_whole.ensures c.if-is_whole.false)))

pub returns-then-is_whole-2-clause-alone : goal.returns-then-is_whole-2-clause-alone
returns-then-is_whole-2-clause-alone g c =
    let spells : List ℕ → Type 0 = g.G.Grammar.spells c.args.grammar in
    let e : length c.args.bytes.now ≡ c.loop-i.i = omega arith in
    rw (c.split_at-then-is_whole-2.ensures.front, e) (IsAlone-take spells _ c.args.bytes.now c.loop-i.i (omega arith) c.loop-i.invariant.0
    (g.met.G.Closed.closed c.loop-i.left (c.is_whole-2.ensures.0 c.if-is_whole-2.true)) c.loop-i.invariant.1)

pub returns-else-is_whole-2-clause-fault : goal.returns-else-is_whole-2-clause-fault
returns-else-is_whole-2-clause-fault g c =
    let spells : List ℕ → Type 0 = g.G.Grammar.spells c.args.grammar in
    let e : length c.args.bytes.now ≡ c.loop-i.i = omega arith in
    let leaves = c.loop-i.invariant.0 in
    let never = refused c.is_whole-2.ensures c.if-is_whole-2.false in
    let fault = IsFault_cut spells _ c.args.bytes.now c.loop-i.i (omega arith) leaves (g.G.Grammar.completes c.loop-i.left) never in
    rw e (IsFrontFault-IsReach spells c.args.bytes.now c.loop-i.i fault.reach
    (NoneBelow-push spells c.args.bytes.now c.loop-i.i c.loop-i.invariant.1 (Leaves-not_nil spells _ _ leaves never)))
