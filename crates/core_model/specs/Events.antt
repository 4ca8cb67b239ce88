-- The plain events of a step: most make one or none; a snapshot's commit of a list makes two.
use Rattle.std.specs.Prelude.{List, [], ◌∷◌, Some, None, Ok, true, unwrap_or}
use Rattle.plain_model.specs.declared.event.Event.{Event}
use Rattle.plain_model.specs.declared.event.Event.TheVariants as event
use Rattle.plain_model.specs.Puts.{cell_put}
use Rattle.plain_model.specs.Keys.{key_at}
use Rattle.core_model.specs.declared.targets.MoveFrom.TheVariants.{WrittenBulk, StagedBulk}
use Rattle.core_model.specs.declared.targets.Why.TheVariants as why
use Rattle.core_model.specs.declared.step.Started.TheVariants.{Live}
use Rattle.core_model.specs.declared.step.Step.{Step}
use Rattle.core_model.specs.declared.step.Step.TheVariants as step
use Rattle.core_model.specs.Keys.{home}

abbrev pub events_of : Step → List Event
events_of (step.PutCell who table put moment (Some joined)) = event.Put (key_at table joined.0) (cell_put put (unwrap_or moment 0) joined.1) ∷ []
events_of (step.Start who job (Live actor) drawn) = event.At actor (Some job) drawn.holds ∷ []
events_of (step.End actor refusal) = event.At actor None [] ∷ []
events_of (step.Abandon actor) = event.At actor None [] ∷ []
events_of (step.Freeze actor region) = event.Freeze region ∷ []
events_of (step.Place actor (WrittenBulk name) base cells) = event.Draw (home base) ∷ []
events_of (step.Place actor (StagedBulk folder name) base cells) = event.Draw (home base) ∷ []
events_of (step.CommitList actor region number name why.Flush list cells planned) = event.Flush region ∷ []
events_of (step.CommitList actor region number name why.Capture list cells planned) = event.Flush region ∷ event.Capture actor region ∷ []
events_of (step.CommitList actor region number name (why.Compact true) list cells planned) = event.Major actor region ∷ []
events_of (step.CommitList actor region number name why.Bulk list cells planned) = event.Bulk region cells ∷ []
events_of (step.Capture actor region) = event.Capture actor region ∷ []
events_of (step.Pin actor target (Ok region) true) = event.MajorStart actor region ∷ []
events_of (step.Complete actor snapshot copied) = event.Complete actor ∷ []
events_of (step.Uncomplete actor snapshot) = event.Delete snapshot ∷ []
events_of (step.CommitRegions actor table number name set change) = change ∷ []
events_of _ = []
