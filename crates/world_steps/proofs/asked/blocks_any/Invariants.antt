use Rattle.std.proofs.Common.{◌≡◌, drop}
use Rattle.std.specs.List.{list_any}
use Rattle.plain_model.specs.Conflicts.{blocks}
use Rattle.world_steps.proofs.asked.blocks_any.Given as goal

abbrev pub invariant-loop-hold : goal.invariant-loop-hold
invariant-loop-hold l = list_any (λ h. blocks h l.held) (drop l.hold-index l.asked) ≡ list_any (λ h. blocks h l.held) l.asked
