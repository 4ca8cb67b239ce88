-- What each step makes of the activities at work, by its event.
use Rattle.std.proofs.Common.{◌≡◌, ℕ, List, Option, Some, refl}
use Rattle.plain_model.specs.declared.event.Event.{Event}
use Rattle.plain_model.specs.declared.event.Event.TheVariants as event
use Rattle.plain_model.specs.declared.job.Job.{Job}
use Rattle.plain_model.specs.declared.job.Job.TheVariants as jobs
use Rattle.plain_model.specs.declared.parts.Live.{Live}
use Rattle.plain_model.specs.After.{after_all}
use Rattle.plain_model.specs.LiveEvents.{live_on}
use Rattle.core_model.specs.declared.step.Started.TheVariants as started
use Rattle.core_model.specs.declared.step.Step.{Step}
use Rattle.core_model.specs.declared.step.Step.TheVariants as step
use Rattle.core_model.specs.Allows.{Allows}
use Rattle.core_model.specs.Events.{events_of}
use Rattle.core_model.specs.LiveChanges.{live_by}
use Rattle.core_model.specs.SetGuards.{IsChange}
use Rattle.core_model.specs.State.{Parts}
use Rattle.core_places.specs.Served.{IsServed}

-- the change of a table is no start and no end
change_live : (job : Option Job) (change : Event) (table : List ℕ) (a : ℕ) (s : Parts) (live : List Live) → IsChange job change table a s → live_on change live ≡ live
change_live job (event.At w o hs) table a s live z = absurd (no_at job z)
  where
    no_at : (job : Option Job) → IsChange job (event.At w o hs) table a s → ⊥
    no_at (Some (jobs.Create t fs n ks)) z = z
    no_at (Some jobs.Janitor) z = z
    no_at _ z = z
change_live job event.Stop table a s live z = absurd (no_stop job z)
  where
    no_stop : (job : Option Job) → IsChange job event.Stop table a s → ⊥
    no_stop (Some (jobs.Create t fs n ks)) z = z
    no_stop (Some jobs.Janitor) z = z
    no_stop _ z = z
change_live job _ table a s live z = refl

pub live_after : (p : Step) (s : Parts) → IsServed p → Allows p s → (after_all s.plain (events_of p)).live ≡ live_by p s.plain.live
live_after (step.Start who job (started.Live actor) drawn) s k a = refl
live_after (step.Start who job (started.Refused reply) drawn) s k a = refl
live_after (step.CommitRegions actor table number name set change) s k a = change_live _ change table actor.0 s s.plain.live a.is_change
live_after (step.ListSnapshots who) s k a = refl
live_after (step.End actor refusal) s k a = refl
live_after (step.Abandon actor) s k a = refl
live_after (step.WriteTmp actor recipe name cells bytes) s k a = refl
live_after (step.DropOld actor file) s k a = refl
live_after _ s k a = absurd k
