use Rattle.world_steps.proofs.Facts.{owner_is}
use Rattle.world_steps.proofs.world.World.worker_of.Goals as goal

pub returns : goal.returns
returns g c = owner_is _ _ c.args.actor.0 c.in-Some.work.now c.self.view_is c.in-Some.ensures.live c.in-Some.ensures.work
