use Rattle.std.proofs.Common.{◌∙◌, ap, arith, length}
use Rattle.world_state.specs.Parts.{freed}
use Rattle.world_state.proofs.Freed.{all_freed, freed_more}
use Rattle.world_state.proofs.at_work.free_plan.Goals as goal

pub loop-work-preserved : goal.loop-work-preserved
loop-work-preserved c =
    let same = ap length c.deref_mut-work-items.ensures.value in
    freed_more (freed c.args.actor.0) c.args.works.now.items c.loop-work.work-items c.loop-work.work-index _ _ (omega (arith, same, c.loop-work-test.true)) c.loop-work.invariant c.free.ensures

pub returns : goal.returns
returns c =
    let same = ap length c.deref_mut-work-items.ensures.value in
    all_freed (freed c.args.actor.0) c.args.works.now.items c.loop-work.work-items c.loop-work.work-index c.args.works.now.len
    (omega (arith, c.args.works.now.ok.0)) (c.loop-work.auto.work-items ∙ same) (omega (arith, same, c.loop-work-test.false)) c.loop-work.invariant
