use Rattle.std.proofs.Common.{◌≡◌, drop}
use Rattle.std.specs.List.{list_any}
use Rattle.plain_model.specs.Held.{blocks_any}
use Rattle.world_steps.proofs.asked.has_blocker.Given as goal

abbrev pub invariant-loop-hold : goal.invariant-loop-hold
invariant-loop-hold l = list_any (blocks_any l.asked) (drop l.hold-index l.held) ≡ list_any (blocks_any l.asked) l.held
