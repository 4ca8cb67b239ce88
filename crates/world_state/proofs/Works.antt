-- The activities at work, after a step.
use Rattle.std.proofs.Common.{◌≡◌, ℕ, ◌+◌, ◌<◌, ◌==◌, Bool, true, false, not, cond, List, [], ◌∷◌, ◌++◌, map, Some, refl, ap, ◌∙◌, arith}
use Rattle.std.specs.List.{AllByRecursion, filter}
use Rattle.std.proofs.lemmas.Bool.Decides.{nat_tests}
use Rattle.plain_model.specs.declared.parts.Live.{Live}
use Rattle.plain_model.specs.LiveEvents.{without}
use Rattle.core_model.specs.declared.plan.Plan.{Plan}
use Rattle.core_model.specs.declared.step.Started.TheVariants as started
use Rattle.core_model.specs.declared.step.Step.{Step}
use Rattle.core_model.specs.declared.step.Step.TheVariants as step
use Rattle.core_model.specs.Allows.{Allows}
use Rattle.core_model.specs.ActorChanges.{begun_by, owners_by, plans_by}
use Rattle.core_model.specs.LiveChanges.{live_by}
use Rattle.core_model.specs.State.{Parts, no_plan}
use Rattle.core_places.specs.Served.{IsServed}
use Rattle.world_state.specs.declared.at_work.AtWork.{AtWork}
use Rattle.world_state.specs.Changes.{work_change}
use Rattle.world_state.specs.Parts.{freed, is_not, works_with}
use Rattle.world_state.specs.Works.{IsWork, live_in}

-- ---- each activity

each : (P Q : AtWork → Type 0) → ((w : AtWork) → P w → Q w) → (ws : List AtWork) → AllByRecursion P ws → AllByRecursion Q ws
each P Q f [] h = tt
each P Q f (w ∷ ws) h = (f w h.0, each P Q f ws h.1)

each_and : (P : AtWork → Type 0) (ws : List AtWork) (x : AtWork) → AllByRecursion P ws → P x → AllByRecursion P (ws ++ x ∷ [])
each_and P [] x h k = (k, tt)
each_and P (w ∷ ws) x h k = (h.0, each_and P ws x h.1 k)

each_map : (P Q : AtWork → Type 0) (f : AtWork → AtWork) → ((w : AtWork) → P w → Q (f w)) → (ws : List AtWork) → AllByRecursion P ws → AllByRecursion Q (map f ws)
each_map P Q f g [] h = tt
each_map P Q f g (w ∷ ws) h = (g w h.0, each_map P Q f g ws h.1)

each_left : (P Q : AtWork → Type 0) (a : ℕ) → ((w : AtWork) → (w.live.actor.0 == a) ≡ false → P w → Q w) → (ws : List AtWork) → AllByRecursion P ws → AllByRecursion Q (filter (is_not a) ws)
each_left P Q a g [] h = tt
each_left P Q a g (w ∷ ws) h = by (w.live.actor.0 == a) refl (each_left P Q a g ws h.1)
  where
    by : (b : Bool) → (w.live.actor.0 == a) ≡ b → AllByRecursion Q (filter (is_not a) ws) → AllByRecursion Q (cond (not b) (w ∷ filter (is_not a) ws) (filter (is_not a) ws))
    by true e k = k
    by false e k = (g w e h.0, k)

-- ---- their jobs and holds

live-and : (ws : List AtWork) (x : AtWork) → map live_in (ws ++ x ∷ []) ≡ map live_in ws ++ live_in x ∷ []
live-and [] x = refl
live-and (w ∷ ws) x = ap (λ ls. live_in w ∷ ls) (live-and ws x)

live-cond : (a : ℕ) (b : Bool) (w : AtWork) (ws : List AtWork) (ls : List Live) → map live_in ws ≡ ls → map live_in (cond b (w ∷ ws) ws) ≡ cond b (live_in w ∷ ls) ls
live-cond a true w ws ls e = ap (λ x. live_in w ∷ x) e
live-cond a false w ws ls e = e

live-left : (a : ℕ) (ws : List AtWork) → map live_in (filter (is_not a) ws) ≡ without a (map live_in ws)
live-left a [] = refl
live-left a (w ∷ ws) = live-cond a (is_not a w) w (filter (is_not a) ws) (without a (map live_in ws)) (live-left a ws)

live_freed : (a : ℕ) (b : Bool) (w : AtWork) → live_in (cond b (record { live = w.live; worker = w.worker; plan = no_plan }) w) ≡ live_in w
live_freed a true w = refl
live_freed a false w = refl

live-freed : (a : ℕ) (ws : List AtWork) → map live_in (map (freed a) ws) ≡ map live_in ws
live-freed a [] = refl
live-freed a (w ∷ ws) = (λ i. live_freed a (w.live.actor.0 == a) w i ∷ live-freed a ws i)

pub live_step : (p : Step) (ws : List AtWork) (ls : List Live) → map live_in ws ≡ ls → map live_in (works_with (work_change p) ws) ≡ live_by p ls
live_step (step.Start who job (started.Live actor) drawn) ws ls e = live-and ws _ ∙ ap (λ x. x ++ record { actor = actor; job = job; holds = drawn.holds } ∷ []) e
live_step (step.Start who job (started.Refused reply) drawn) ws ls e = e
live_step (step.CommitRegions actor table number name set change) ws ls e = live-freed actor.0 ws ∙ e
live_step (step.End actor refusal) ws ls e = live-left actor.0 ws ∙ ap (without actor.0) e
live_step (step.Abandon actor) ws ls e = live-left actor.0 ws ∙ ap (without actor.0) e
live_step _ ws ls e = e

-- ---- their workers and plans

other_number : (m n k : ℕ) → m < n → k ≡ n → (m == k) ≡ false
other_number m n k l e = grind (arith, nat_tests)

self_number : (n : ℕ) → (n == n) ≡ true
self_number n = grind (arith, nat_tests)

set_other : {A : Type 0} (m k : ℕ) (v : A) (f : ℕ → A) → (m == k) ≡ false → cond (m == k) v (f m) ≡ f m
set_other m k v f e = ap (λ b. cond b v (f m)) e

begins : (s : Parts) (a worker : ℕ) (plan : Plan) (w : AtWork) → a ≡ s.begun → IsWork s.begun s.owners s.plans w
    → IsWork (s.begun + 1) (λ n. cond (n == a) (Some worker) (s.owners n)) (λ n. cond (n == a) plan (s.plans n)) w
begins s a worker plan w e h =
    let k = other_number w.live.actor.0 s.begun a h.number e in
    record { number = let l = h.number in omega (arith, l); owner = set_other w.live.actor.0 a (Some worker) s.owners k ∙ h.owner; builds = set_other w.live.actor.0 a plan s.plans k ∙ h.builds }

frees : (s : Parts) (a : ℕ) (w : AtWork) → IsWork s.begun s.owners s.plans w → IsWork s.begun s.owners (λ n. cond (n == a) no_plan (s.plans n)) (freed a w)
frees s a w h = by (w.live.actor.0 == a) refl
  where
    by : (b : Bool) → (w.live.actor.0 == a) ≡ b → IsWork s.begun s.owners (λ n. cond (n == a) no_plan (s.plans n)) (cond b (record { live = w.live; worker = w.worker; plan = no_plan }) w)
    by true e = record { number = h.number; owner = h.owner; builds = ap (λ b. cond b no_plan (s.plans w.live.actor.0)) e }
    by false e = record { number = h.number; owner = h.owner; builds = ap (λ b. cond b no_plan (s.plans w.live.actor.0)) e ∙ h.builds }

stays : (s : Parts) (a : ℕ) (w : AtWork) → (w.live.actor.0 == a) ≡ false → IsWork s.begun s.owners s.plans w → IsWork s.begun s.owners (λ n. cond (n == a) no_plan (s.plans n)) w
stays s a w e h = record { number = h.number; owner = h.owner; builds = ap (λ b. cond b no_plan (s.plans w.live.actor.0)) e ∙ h.builds }

abbrev AreWork : Step → Parts → AtWork → Type 0
AreWork p s = IsWork (begun_by p s.begun) (owners_by p s.owners) (plans_by p s.plans)

pub works_step : (p : Step) (s : Parts) (ws : List AtWork) → IsServed p → Allows p s → AllByRecursion (IsWork s.begun s.owners s.plans) ws → AllByRecursion (AreWork p s) (works_with (work_change p) ws)
works_step (step.Start who job (started.Live actor) drawn) s ws k a h =
    let e = a.answered.1.number in
    let p = step.Start who job (started.Live actor) drawn in
    each_and (AreWork p s) ws _ (each (IsWork s.begun s.owners s.plans) (AreWork p s) (λ w. begins s actor.0 who.worker drawn.plan w e) ws h) (record {
      number = omega (arith, e);
      owner = ap (λ b. cond b (Some who.worker) (s.owners actor.0)) (self_number actor.0);
      builds = ap (λ b. cond b drawn.plan (s.plans actor.0)) (self_number actor.0);
    })
works_step (step.Start who job (started.Refused reply) drawn) s ws k a h = h
works_step (step.CommitRegions actor table number name set change) s ws k a h =
    let p = step.CommitRegions actor table number name set change in
    each_map (IsWork s.begun s.owners s.plans) (AreWork p s) (freed actor.0) (frees s actor.0) ws h
works_step (step.End actor refusal) s ws k a h = let p = step.End actor refusal in each_left (IsWork s.begun s.owners s.plans) (AreWork p s) actor.0 (stays s actor.0) ws h
works_step (step.Abandon actor) s ws k a h = let p = step.Abandon actor in each_left (IsWork s.begun s.owners s.plans) (AreWork p s) actor.0 (stays s actor.0) ws h
works_step (step.ListSnapshots who) s ws k a h = h
works_step (step.WriteTmp actor recipe name cells bytes) s ws k a h = h
works_step (step.DropOld actor file) s ws k a h = h
works_step _ s ws k a h = absurd k
