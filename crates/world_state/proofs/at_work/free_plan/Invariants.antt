use Rattle.std.proofs.Common.{◌≡◌, ◌++◌, drop, map, take}
use Rattle.world_state.specs.Parts.{freed}
use Rattle.world_state.proofs.at_work.free_plan.Given as goal

-- the activities passed have no plan of the actor's, and the others are as they were
abbrev pub invariant-loop-work : goal.invariant-loop-work
invariant-loop-work l = l.work-items ≡ map (freed l.actor.0) (take l.work-index l.fn.works.items) ++ drop l.work-index l.fn.works.items
