-- Activities at work, beside what the state has of them.
use Rattle.std.specs.Prelude.{◌≡◌, ℕ, ◌<◌, Option, Some}
use Rattle.plain_model.specs.declared.parts.Live.{Live}
use Rattle.core_model.specs.declared.plan.Plan.{Plan}
use Rattle.world_state.specs.declared.at_work.AtWork.{AtWork}

-- an activity at work has this worker and this plan; its number was drawn
pub record IsWork (begun : ℕ) (owners : ℕ → Option ℕ) (plans : ℕ → Plan) (work : AtWork) : Type 0 where
  pub number : work.live.actor.0 < begun
  pub owner : owners work.live.actor.0 ≡ Some work.worker
  pub builds : plans work.live.actor.0 ≡ work.plan

abbrev pub live_in : AtWork → Live
live_in work = work.live
