use Rattle.world_steps.proofs.Started.{key_here, ok_by}
use Rattle.world_steps.proofs.world.World.is_key_taken.Goals as goal

pub returns : goal.returns
returns g c = ok_by _ _ c.stands_below.result (λ b h. key_here c.core.result.now c.core-2.result.now c.args.self.now c.args.listed.now c.args.key.now c.is_drawn.result c.has_key.result b c.core.ensures.opening c.core.ensures.entries c.core-2.ensures.opening c.core-2.ensures.entries
    c.is_drawn.ensures c.if-is_drawn.false c.has_key.ensures c.if-has_key.false h) c.stands_below.ensures
