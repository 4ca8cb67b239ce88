use Rattle.std.proofs.Common.{false, refl}
use Rattle.world_steps.proofs.Facts.{may_add}
use Rattle.world_steps.proofs.Kept.{world_noted}
use Rattle.world_steps.proofs.world.World.finish.Goals as goal

pub invariant_of-self : goal.invariant_of-self
invariant_of-self g c =
    let core = c.self.inside.core in
    let told = g.N.Namespace.told c.self.inside.ns in
    world_noted told told core.opening c.apply.new.self.opening core.entries c.apply.new.self.entries c.args.worker c.args.step refl c.apply.ensures.opening c.apply.ensures.entries
    c.self.invariant (may_add _ _ c.args.worker c.args.step false c.self.view_is c.requires.allowed c.requires.names c.requires.writes) c.requires.silent
