use Rattle.std.proofs.Common.{◌+◌, drop, refl, subst, sym}
use Rattle.std.proofs.lemmas.Bool.{false≢true, iff_false}
use Rattle.std.proofs.lemmas.List.{drop_all, take_rest}
use Rattle.cell_sight.specs.Member.{Member}
use Rattle.world_steps.proofs.NamesTaken.{repeats_here, repeats_more, repeats_none}
use Rattle.world_steps.proofs.taken.has_repeated.Goals as goal

pub returns-then-has_key : goal.returns-then-has_key
returns-then-has_key c =
    let keys = c.args.keys.now in
    let key = c.index-keys-i.result in
    (λ e. repeats_here keys c.loop-i.i key c.loop-i-test.true c.index-keys-i.is (subst (Member key) (take_rest keys (c.loop-i.i + 1)) (c.has_key.ensures.0 c.if-has_key.true)), λ h. refl)

pub loop-i-preserved : goal.loop-i-preserved
loop-i-preserved c =
    let keys = c.args.keys.now in
    let key = c.index-keys-i.result in
    repeats_more keys c.loop-i.i key c.loop-i-test.true c.index-keys-i.is c.loop-i.invariant (λ m. iff_false c.has_key.ensures c.if-has_key.false (subst (Member key) (sym (take_rest keys (c.loop-i.i + 1))) m))

pub returns : goal.returns
returns c = (λ e. absurd (false≢true e), λ r. absurd (repeats_none (drop c.loop-i.i c.args.keys.now) (drop_all c.loop-i.i c.args.keys.now c.loop-i-test.false) (c.loop-i.invariant r)))
