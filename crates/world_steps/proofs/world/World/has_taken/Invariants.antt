use Rattle.std.proofs.Common.{drop}
use Rattle.world_steps.specs.Starts.{HasTaken}
use Rattle.world_steps.specs.World.{state_at}
use Rattle.world_steps.proofs.world.World.has_taken.Given as goal

abbrev pub invariant-loop-key : goal.invariant-loop-key
invariant-loop-key g l = HasTaken l.listed (state_at l.self).now l.keys → HasTaken l.listed (state_at l.self).now (drop l.key-index l.keys)
