use Rattle.std.proofs.Common.{drop, refl}
use Rattle.std.proofs.lemmas.Bool.{false≢true, iff_false}
use Rattle.std.proofs.lemmas.List.{drop_all}
use Rattle.world_steps.specs.World.{state_at}
use Rattle.world_steps.proofs.NamesTaken.{none_taken, taken_here, taken_none}
use Rattle.world_steps.proofs.world.World.has_taken.Goals as goal

pub returns-then-branch : goal.returns-then-branch
returns-then-branch g c =
    (λ e. taken_here c.args.listed.now (state_at c.args.self.now).now c.args.keys.now c.loop-key.key-index c.key-item.result c.loop-key-test.true c.key-item.is (c.in_ok-is_key_taken.ensures.0 c.if-branch.true), λ h. refl)

pub loop-key-preserved : goal.loop-key-preserved
loop-key-preserved g c =
    none_taken c.args.listed.now (state_at c.args.self.now).now c.args.keys.now c.loop-key.key-index c.key-item.result c.loop-key-test.true c.key-item.is c.loop-key.invariant (iff_false c.in_ok-is_key_taken.ensures c.if-branch.false)

pub returns : goal.returns
returns g c =
    let keys = c.args.keys.now in
    (λ e. absurd (false≢true e), λ h. absurd (taken_none c.args.listed.now (state_at c.args.self.now).now (drop c.loop-key.key-index keys) (drop_all c.loop-key.key-index keys c.loop-key-test.false) (c.loop-key.invariant h)))
