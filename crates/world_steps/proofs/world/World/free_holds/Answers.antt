use Rattle.std.proofs.Common.{◌∙◌, sym}
use Rattle.world_state.specs.Held.{parts_of}
use Rattle.world_steps.proofs.Started.{held_here}
use Rattle.world_steps.proofs.world.World.free_holds.Goals as goal

pub returns-in-Some-clause-err : goal.returns-in-Some-clause-err
returns-in-Some-clause-err g c =
    held_here c.core.result.now c.args.self.now c.args.job.now _ _ _ _ c.core.ensures.opening c.core.ensures.entries c.works.ensures.live c.as_slice.ensures (c.in_ok-holds.ensures (parts_of c.core.result.now).plain)
    (sym c.in-Some.is ∙ c.in_ok-by.ensures)

pub returns-in-None-clause-free : goal.returns-in-None-clause-free
returns-in-None-clause-free g c =
    held_here c.core.result.now c.args.self.now c.args.job.now _ _ _ _ c.core.ensures.opening c.core.ensures.entries c.works.ensures.live c.as_slice.ensures (c.in_ok-holds.ensures (parts_of c.core.result.now).plain)
    (sym c.in-None.is ∙ c.in_ok-by.ensures)
