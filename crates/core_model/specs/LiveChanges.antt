-- What a step makes of the actors at work.
use Rattle.std.specs.Prelude.{List, [], ◌∷◌, ◌++◌}
use Rattle.plain_model.specs.LiveEvents.{without}
use Rattle.plain_model.specs.declared.parts.Live.{Live}
use Rattle.core_model.specs.declared.step.Started.TheVariants as started
use Rattle.core_model.specs.declared.step.Step.{Step}
use Rattle.core_model.specs.declared.step.Step.TheVariants as step

abbrev pub live_by : Step → List Live → List Live
live_by (step.Start who job (started.Live actor) drawn) live = live ++ record { actor = actor; job = job; holds = drawn.holds } ∷ []
live_by (step.End actor refusal) live = without actor.0 live
live_by (step.Abandon actor) live = without actor.0 live
live_by _ live = live
