-- What each step makes of the actors at work, and that captures and the pass stay theirs.
use Rattle.std.proofs.Common.{◌≡◌, ℕ, ◌&&◌, ◌==◌, Bool, true, false, not, cond, List, [], ◌∷◌, ◌++◌, Option, Some, None, refl, sym, ap, ◌∙◌, subst}
use Rattle.std.specs.Prelude.{Ok}
use Rattle.std.specs.List.{find}
use Rattle.plain_model.specs.declared.event.Event.{Event}
use Rattle.plain_model.specs.declared.event.Event.TheVariants as event
use Rattle.plain_model.specs.declared.hold.Hold.{Hold}
use Rattle.plain_model.specs.declared.hold.Hold.TheVariants as holds
use Rattle.plain_model.specs.declared.job.Job.{Job}
use Rattle.plain_model.specs.declared.job.Job.TheVariants as jobs
use Rattle.plain_model.specs.declared.region_key.RegionKey.{RegionKey}
use Rattle.plain_model.specs.After.{after_all}
use Rattle.plain_model.specs.Keys.{same_key}
use Rattle.plain_model.specs.LiveEvents.{live_of, live_on, without}
use Rattle.plain_model.specs.declared.parts.Live.{Live}
use Rattle.core_model.specs.declared.region_files.RegionFiles.{RegionFiles}
use Rattle.core_model.specs.declared.targets.MoveFrom.TheVariants as moves
use Rattle.core_model.specs.declared.targets.Why.TheVariants as why
use Rattle.core_model.specs.declared.step.Started.TheVariants as started
use Rattle.core_model.specs.declared.step.Step.{Step}
use Rattle.core_model.specs.declared.step.Step.TheVariants as step
use Rattle.core_model.specs.ActorChanges.{captures_by}
use Rattle.core_model.specs.ActorFacts.{CapturesHeld}
use Rattle.core_model.specs.Actors.{HasHold}
use Rattle.core_model.specs.Allows.{Allows}
use Rattle.core_model.specs.Events.{events_of}
use Rattle.core_model.specs.LiveChanges.{live_by}
use Rattle.core_model.specs.SetGuards.{IsChange}
use Rattle.core_model.specs.Sound.{IsSound}
use Rattle.core_model.specs.State.{Parts}
use Rattle.core_sound.proofs.Tests.{cond_cases, both_left, both_right, same_number, same_key-true}

-- the change of a table is no start and no end
change_live : (job : Option Job) (change : Event) (table : List ℕ) (a : ℕ) (s : Parts) (live : List Live) → IsChange job change table a s → live_on change live ≡ live
change_live job (event.At w o hs) table a s live z = absurd (no_at job z)
  where
    no_at : (job : Option Job) → IsChange job (event.At w o hs) table a s → ⊥
    no_at (Some (jobs.Create t fs n ks)) z = z
    no_at (Some jobs.Janitor) z = z
    no_at _ z = z
change_live job event.Stop table a s live z = absurd (no_stop job z)
  where
    no_stop : (job : Option Job) → IsChange job event.Stop table a s → ⊥
    no_stop (Some (jobs.Create t fs n ks)) z = z
    no_stop (Some jobs.Janitor) z = z
    no_stop _ z = z
change_live job _ table a s live z = refl

pub live_after : (p : Step) (s : Parts) → Allows p s → (after_all s.plain (events_of p)).live ≡ live_by p s.plain.live
live_after (step.PutCell who table put moment (Some joined)) s a = refl
live_after (step.Start who job (started.Live actor) drawn) s a = refl
live_after (step.CommitList actor region number name why.Flush list cells planned) s a = refl
live_after (step.CommitList actor region number name (why.Compact true) list cells planned) s a = refl
live_after (step.CommitRegions actor table number name set change) s a = change_live _ change table actor.0 s s.plain.live a.is_change
live_after (step.Place actor (moves.Written name) base cells) s a = refl
live_after (step.Pin actor target (Ok region) true) s a = refl
live_after _ s a = refl

-- ---- holds

pub find-front : {X : Type 0} (p : X → Bool) (xs ys : List X) (x : X) → find p xs ≡ Some x → find p (xs ++ ys) ≡ Some x
find-front p [] ys x e = absurd (cc)
find-front p (z ∷ xs) ys x e = cond_cases (p z) (Some z) (find p xs) (Some x) e
    (λ d i. ap (λ b. cond b (Some z) (find p (xs ++ ys))) d ∙ i)
    (λ d i. ap (λ b. cond b (Some z) (find p (xs ++ ys))) d ∙ find-front p xs ys x i)

pub find-without : (a b : ℕ) (xs : List Live) (x : Live) → (a == b) ≡ false → live_of xs a ≡ Some x → live_of (without b xs) a ≡ Some x
find-without a b [] x n e = e
find-without a b (z ∷ xs) x n e = cond_cases (z.actor.0 == a) (Some z) (live_of xs a) (Some x) e
    (λ d i. let k : z.actor.0 ≡ a = same_number z.actor.0 a d in
    ap (λ c. live_of (cond (not c) (z ∷ without b xs) (without b xs)) a) (ap (λ y. y == b) k ∙ n) ∙ ap (λ c. cond c (Some z) (live_of (without b xs) a)) d ∙ i)
    (λ d i. (elim (z.actor.0 == b) as (λ c. live_of (cond (not c) (z ∷ without b xs) (without b xs)) a ≡ Some x) [
      | true ↦ find-without a b xs x n i
      | false ↦ ap (λ c. cond c (Some z) (live_of (without b xs) a)) d ∙ find-without a b xs x n i
    ]))

pub hold_front : (live more : List Live) (a : ℕ) (h : Hold) → HasHold live a h → HasHold (live ++ more) a h
hold_front live more a h k = record { activity = k.activity; at_work = find-front _ live more k.activity k.at_work; held = k.held }

pub hold_without : (live : List Live) (a b : ℕ) (h : Hold) → (a == b) ≡ false → HasHold live a h → HasHold (without b live) a h
hold_without live a b h n k = record { activity = k.activity; at_work = find-without a b live k.activity n k.at_work; held = k.held }

-- ---- captures

abbrev Captures : Type 0
Captures = ℕ → RegionKey → Option RegionFiles

new_held : (a : ℕ) (r : RegionKey) (l : RegionFiles) (captures : Captures) (live : List Live) (name : List ℕ) → HasHold live a (holds.Take name r.table) → CapturesHeld captures live
    → CapturesHeld (λ w q. cond ((w == a) && same_key q r) (Some l) (captures w q)) live
new_held a r l captures live name k h = record {
  at = λ w q m e. cond_cases ((w == a) && same_key q r) (Some l) (captures w q) (Some m) e
      (λ d i. let x : w ≡ a = same_number w a (both_left (w == a) _ d) in let y : q ≡ r = same_key-true q r (both_right (w == a) _ d) in
      (name, subst (λ v. HasHold live v (holds.Take name q.table)) (sym x) (subst (λ (v : RegionKey). HasHold live a (holds.Take name v.table)) (sym y) k)))
      (λ d i. h.at w q m i);
}

ended_held : (a : ℕ) (captures : Captures) (live : List Live) → CapturesHeld captures live → CapturesHeld (λ w q. cond (w == a) None (captures w q)) (without a live)
ended_held a captures live h = record {
  at = λ w q m e. cond_cases (w == a) None (captures w q) (Some m) e (λ d i. absurd (cc)) (λ d i. let k = h.at w q m i in (k.0, hold_without live w a _ d k.1));
}

held_by_step : (p : Step) (s : Parts) → Allows p s → IsSound s → CapturesHeld (captures_by p s.lists s.captures) (live_by p s.plain.live)
held_by_step (step.Start who job (started.Live actor) drawn) s a h = record { at = λ w q m e. let k = h.captures.at w q m e in (k.0, hold_front s.plain.live _ w _ k.1) }
held_by_step (step.End actor refusal) s a h = ended_held actor.0 s.captures s.plain.live h.captures
held_by_step (step.Abandon actor) s a h = ended_held actor.0 s.captures s.plain.live h.captures
held_by_step (step.Capture actor region) s a h = new_held actor.0 region (s.lists region) s.captures s.plain.live a.snapshot a.take h.captures
held_by_step (step.CommitList actor region number name why.Capture list cells planned) s a h = new_held actor.0 region list s.captures s.plain.live a.allowed.snapshot a.allowed.take h.captures
held_by_step _ s a h = h.captures

pub captures_held : (p : Step) (s : Parts) → Allows p s → IsSound s → CapturesHeld (captures_by p s.lists s.captures) (after_all s.plain (events_of p)).live
captures_held p s a h = subst (CapturesHeld (captures_by p s.lists s.captures)) (sym (live_after p s a)) (held_by_step p s a h)
