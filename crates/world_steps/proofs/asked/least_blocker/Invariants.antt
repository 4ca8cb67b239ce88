use Rattle.std.proofs.Common.{◌≡◌, drop, map}
use Rattle.std.specs.Prelude.{option_copied, option_map}
use Rattle.std.specs.List.{list_any}
use Rattle.plain_model.specs.declared.parts.Live.{Live}
use Rattle.plain_model.specs.Held.{blocks_any, least}
use Rattle.world_state.specs.Works.{live_in}
use Rattle.world_steps.proofs.Least.{seen_least}
use Rattle.world_steps.proofs.asked.least_blocker.Given as goal

abbrev pub invariant-loop-work : goal.invariant-loop-work
invariant-loop-work l =
    seen_least (λ (x : Live). list_any (blocks_any l.asked) x.holds) (option_map live_in (option_copied l.least)) (drop l.work-index l.works)
    ≡ least (λ (x : Live). list_any (blocks_any l.asked) x.holds) (map live_in l.works)
