use Rattle.std.proofs.Common.{◌≡◌, drop}
use Rattle.world_state.specs.Parts.{work_of}
use Rattle.world_state.proofs.at_work.work_of.Given as goal

abbrev pub invariant-loop-work : goal.invariant-loop-work
invariant-loop-work l = work_of (drop l.work-index l.works) l.actor.0 ≡ work_of l.works l.actor.0
