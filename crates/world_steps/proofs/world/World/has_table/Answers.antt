use Rattle.std.proofs.Common.{refl}
use Rattle.world_steps.proofs.Started.{table_here}
use Rattle.world_steps.proofs.Tables.{exists-open}
use Rattle.world_steps.proofs.world.World.has_table.Goals as goal

pub returns-in-Some : goal.returns-in-Some
returns-in-Some g c = table_here c.core.result.now c.args.self.now c.args.table.now _ _ c.core.ensures.opening c.core.ensures.entries c.holds.ensures c.in-Some.ensures (exists-open c.is_dropped.result c.in-Some.set.now _ refl c.is_dropped.ensures)

pub returns-in-None : goal.returns-in-None
returns-in-None g c = table_here c.core.result.now c.args.self.now c.args.table.now _ _ c.core.ensures.opening c.core.ensures.entries c.holds.ensures c.in-None.ensures refl
