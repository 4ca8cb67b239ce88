-- Each step keeps that an actor's holds are those of its job.
use Rattle.std.proofs.Common.{ℕ, List, [], ◌∷◌, ◌++◌, refl, sym, subst, inl, inr}
use Rattle.std.specs.Prelude.{map, option_to_list}
use Rattle.plain_model.specs.declared.hold.Hold.{Hold}
use Rattle.plain_model.specs.declared.hold.Hold.TheVariants as holds
use Rattle.plain_model.specs.declared.job.Job.{Job}
use Rattle.plain_model.specs.declared.job.Job.TheVariants as jobs
use Rattle.plain_model.specs.declared.region_key.RegionKey.{RegionKey}
use Rattle.plain_model.specs.After.{after_all}
use Rattle.plain_model.specs.Found.{table_of_snapshot}
use Rattle.plain_model.specs.Holds.{holds_of}
use Rattle.plain_model.specs.LiveEvents.{without}
use Rattle.plain_model.specs.Plain.{Plain}
use Rattle.plain_model.specs.declared.parts.Live.{Live}
use Rattle.core_model.specs.declared.step.Started.TheVariants as started
use Rattle.core_model.specs.declared.step.Step.{Step}
use Rattle.core_model.specs.declared.step.Step.TheVariants as step
use Rattle.core_model.specs.ActorFacts.{HoldsFit, FitsJob, JobsHeld, HasOwnHold}
use Rattle.core_model.specs.Allows.{Allows}
use Rattle.core_model.specs.Events.{events_of}
use Rattle.cell_sight.specs.Member.{Member}
use Rattle.core_model.specs.LiveChanges.{live_by}
use Rattle.core_model.specs.Sound.{IsSound}
use Rattle.core_model.specs.State.{Parts}
use Rattle.core_sound.proofs.Lists.{member-append}
use Rattle.core_sound.proofs.LiveKept.{live_after}
use Rattle.core_sound.proofs.HoldsKept.{without-member}
use Rattle.core_sound.proofs.Sources.{map-member}

-- holds that one function makes of some values
all_fit : {A : Type 0} (f : A → Hold) (job : Job) (xs : List A) (h : Hold) → ((x : A) → FitsJob (f x) job) → Member h (map f xs) → FitsJob h job
all_fit f job xs h k m = let w = map-member f h xs m in subst (λ y. FitsJob y job) w.2 (k w.0)

one_fits : (g h : Hold) (job : Job) → FitsJob g job → Member h (g ∷ []) → FitsJob h job
one_fits g h job k (inl e) = subst (λ y. FitsJob y job) e k
one_fits g h job k (inr e) = absurd e

two_fit : (f g h : Hold) (job : Job) → FitsJob f job → FitsJob g job → Member h (f ∷ g ∷ []) → FitsJob h job
two_fit f g h job k l (inl e) = subst (λ y. FitsJob y job) e k
two_fit f g h job k l (inr m) = one_fits g h job l m

-- the holds of a job are such
pub job_fits : (un : List RegionKey) (p : Plain) (job : Job) (h : Hold) → Member h (holds_of un p job) → FitsJob h job
job_fits un p jobs.ListSnapshots h m = absurd m
job_fits un p (jobs.Put t cell) h m = absurd m
job_fits un p (jobs.Scan t) h m = absurd m
job_fits un p (jobs.Create t fs n ks) h m = one_fits _ h _ tt m
job_fits un p (jobs.Flush t) h m = all_fit holds.Flush _ _ h (λ x. tt) m
job_fits un p (jobs.Compact t major) h m = all_fit holds.Compact _ _ h (λ x. tt) m
job_fits un p (jobs.Discharge t) h m = all_fit holds.Compact _ _ h (λ x. tt) m
job_fits un p (jobs.Split t row) h m = all_fit holds.Region _ _ h (λ x. tt) m
job_fits un p (jobs.Disable t) h m = one_fits _ h _ tt m
job_fits un p (jobs.Enable t) h m = one_fits _ h _ tt m
job_fits un p (jobs.Drop t) h m = one_fits _ h _ tt m
job_fits un p (jobs.Snapshot t name) h m = one_fits _ h _ (refl, refl) m
job_fits un p (jobs.DeleteSnapshot name) h m = one_fits _ h _ refl m
job_fits un p (jobs.Clone name t) h m = two_fit (holds.Table t) (holds.Use name) h _ tt refl m
job_fits un p (jobs.Restore name) h m = elim (member-append h (map holds.Table (option_to_list (table_of_snapshot p name))) (holds.Use name ∷ []) m) [
  | inl k ↦ all_fit holds.Table _ _ h (λ x. tt) k
  | inr k ↦ one_fits _ h _ refl k
]
job_fits un p (jobs.Bulk t folder) h m = one_fits _ h _ refl m
job_fits un p jobs.Janitor h m = all_fit holds.Region _ _ h (λ x. tt) m
job_fits un p jobs.Clean h m = one_fits _ h _ tt m

more_fit : (live : List Live) (new : Live) → ((h : Hold) → Member h new.holds → FitsJob h new.job) → HoldsFit live → HoldsFit (live ++ new ∷ [])
more_fit live new k f = record {
  at = λ l h i m. elim (member-append l live (new ∷ []) i) [
    | inl j ↦ f.at l h j m
    | inr j ↦ elim j [ inl e ↦ subst (λ (x : Live). FitsJob h x.job) e (k h (subst (λ (x : Live). Member h x.holds) (sym e) m)) | inr e ↦ absurd e ]
  ];
}

fewer_fit : (a : ℕ) (live : List Live) → HoldsFit live → HoldsFit (without a live)
fewer_fit a live f = record { at = λ l h i m. f.at l h (without-member a l live i) m }

fits_by_step : (p : Step) (s : Parts) → Allows p s → IsSound s → HoldsFit (live_by p s.plain.live)
fits_by_step (step.Start who job (started.Live actor) drawn) s a h = more_fit s.plain.live _ (λ x m. job_fits a.unreferenced s.plain job x (subst (Member x) a.holds m)) h.fits
fits_by_step (step.End actor refusal) s a h = fewer_fit actor.0 s.plain.live h.fits
fits_by_step (step.Abandon actor) s a h = fewer_fit actor.0 s.plain.live h.fits
fits_by_step _ s a h = h.fits

pub fits_kept : (p : Step) (s : Parts) → Allows p s → IsSound s → HoldsFit (after_all s.plain (events_of p)).live
fits_kept p s a h = subst HoldsFit (sym (live_after p s a)) (fits_by_step p s a h)

-- ---- the holds that changes of tables want

job_held : (un : List RegionKey) (p : Plain) (job : Job) → HasOwnHold job (holds_of un p job)
job_held un p (jobs.Create t fs n ks) = inl refl
job_held un p (jobs.Enable t) = inl refl
job_held un p (jobs.Disable t) = inl refl
job_held un p (jobs.Drop t) = inl refl
job_held un p (jobs.Clone name t) = inl refl
job_held un p _ = tt

jobs_by_step : (p : Step) (s : Parts) → Allows p s → JobsHeld s.plain.live → JobsHeld (live_by p s.plain.live)
jobs_by_step (step.Start who job (started.Live actor) drawn) s a h = record {
  at = λ l i. elim (member-append l s.plain.live _ i) [
    | inl j ↦ h.at l j
    | inr j ↦ elim j [ inl e ↦ subst (λ (x : Live). HasOwnHold x.job x.holds) e (subst (HasOwnHold job) (sym a.holds) (job_held a.unreferenced s.plain job)) | inr e ↦ absurd e ]
  ];
}
jobs_by_step (step.End actor refusal) s a h = record { at = λ l i. h.at l (without-member actor.0 l s.plain.live i) }
jobs_by_step (step.Abandon actor) s a h = record { at = λ l i. h.at l (without-member actor.0 l s.plain.live i) }
jobs_by_step _ s a h = h

pub jobs_kept : (p : Step) (s : Parts) → Allows p s → JobsHeld s.plain.live → JobsHeld (after_all s.plain (events_of p)).live
jobs_kept p s a h = subst JobsHeld (sym (live_after p s a)) (jobs_by_step p s a h)
