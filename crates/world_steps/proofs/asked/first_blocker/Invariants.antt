use Rattle.std.proofs.Common.{◌≡◌, drop}
use Rattle.std.specs.Prelude.{find}
use Rattle.plain_model.specs.Held.{blocks_any}
use Rattle.world_steps.proofs.asked.first_blocker.Given as goal

abbrev pub invariant-loop-hold : goal.invariant-loop-hold
invariant-loop-hold l = find (blocks_any l.asked) (drop l.hold-index l.held) ≡ find (blocks_any l.asked) l.held
