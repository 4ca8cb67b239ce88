use Rattle.std.proofs.Common.{List, ℕ}
use Rattle.std.specs.Borrow.{Bor}
use Rattle.hfile_meta.proofs.Infos.{ArePairs-at, ArePairs-more}
use Rattle.hfile_meta.proofs.info.pairs_of.Goals as goal

pub returns-in_default-clause-none : goal.returns-in_default-clause-none
returns-in_default-clause-none c = λ e pairs are.
    let one = ArePairs-at (λ (t : Bor (List ℕ)). t.now) c.args.texts.now c.loop-text.text-index _ pairs c.loop-text-test.true are in
    c.in_ok-pair.ensures.none c.in_default.is one.0 one.1

pub loop-text-preserved : goal.loop-text-preserved
loop-text-preserved c =
    ArePairs-more (λ (t : Bor (List ℕ)). t.now) c.args.texts.now c.loop-text.text-index _ c.loop-text.pairs.items c.push.new.self.items c.in-Some.pair c.loop-text-test.true c.loop-text.invariant (rw c.in-Some.is at c.in_ok-pair.ensures.found) c.in_ok-push.ensures.items
