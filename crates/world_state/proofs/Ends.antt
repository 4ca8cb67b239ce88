-- What the end of an activity changes.
use Rattle.std.proofs.Common.{◌≡◌, Some, ap}
use Rattle.plain_model.specs.declared.who.Actor.{Actor}
use Rattle.core_model.specs.declared.step.Step.{Step}
use Rattle.core_model.specs.declared.step.Step.TheVariants as step
use Rattle.world_state.specs.Changes.{change_by, ended, ending}

pub ends_change : (p : Step) (actor : Actor) → ending p ≡ Some actor → ended actor ≡ change_by p
ends_change (step.End by refusal) actor e = let same : actor ≡ by = cc in ap ended same
ends_change (step.Abandon by) actor e = let same : actor ≡ by = cc in ap ended same
ends_change _ actor e = absurd (cc)
