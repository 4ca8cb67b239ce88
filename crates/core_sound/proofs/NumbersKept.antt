-- Each step keeps that actors count up, and that the open pass is a live actor's.
use Rattle.std.proofs.Common.{◌≡◌, ℕ, ◌+◌, ◌<◌, ◌==◌, true, false, cond, List, [], ◌∷◌, ◌++◌, Option, Some, None, refl, sym, ap, ◌∙◌, subst, inl, inr, arith}
use Rattle.std.proofs.lemmas.Bool.Decides.{nat_tests}
use Rattle.std.specs.Prelude.{map, option_map, is_some, Ok}
use Rattle.std.specs.FinMap.{get, keys}
use Rattle.hb_layout.specs.declared.base.Base.{Base}
use Rattle.plain_model.specs.declared.hold.Hold.TheVariants as holds
use Rattle.plain_model.specs.declared.job.Job.{Job}
use Rattle.plain_model.specs.declared.job.Job.TheVariants as jobs
use Rattle.plain_model.specs.After.{after_all}
use Rattle.plain_model.specs.Holds.{holds_of}
use Rattle.plain_model.specs.LiveEvents.{live_of, without}
use Rattle.plain_model.specs.declared.parts.Live.{Live}
use Rattle.core_model.specs.declared.entry.Entry.{Entry}
use Rattle.core_model.specs.declared.targets.Why.TheVariants as why
use Rattle.core_model.specs.declared.step.Started.TheVariants as started
use Rattle.core_model.specs.declared.step.Step.{Step}
use Rattle.core_model.specs.declared.step.Step.TheVariants as step
use Rattle.core_model.specs.ActorChanges.{begun_by}
use Rattle.core_model.specs.ActorFacts.{AreNumbered, PassHeld}
use Rattle.core_model.specs.Actors.{HasHold}
use Rattle.core_model.specs.Allows.{Allows}
use Rattle.core_model.specs.Entries.{base_of}
use Rattle.core_model.specs.Events.{events_of}
use Rattle.cell_sight.specs.Member.{Member}
use Rattle.core_model.specs.LiveChanges.{live_by}
use Rattle.core_model.specs.PassChanges.{pass_by, opened_by, ended, touched, read_by, spared, snapshot_bases}
use Rattle.core_model.specs.Sound.{IsSound}
use Rattle.core_model.specs.StartGuards.{needs_moment}
use Rattle.core_model.specs.State.{Parts, Pass}
use Rattle.core_sound.proofs.HoldsKept.{without-member}
use Rattle.core_sound.proofs.Lists.{map_some, member-append}
use Rattle.core_sound.proofs.LiveKept.{live_after, hold_front, hold_without}
use Rattle.core_sound.proofs.Tests.{cond_cases, same_number}

-- ---- numbers

step_up : (m n : ℕ) → m < n → m < n + 1
step_up m n e = grind (arith)

last_one : (m n : ℕ) → m ≡ n → m < n + 1
last_one m n e = grind (arith)

not_itself : {P : Type 0} (m n : ℕ) → m < n → m ≡ n → P
not_itself m n e d = absurd (grind (arith))

joined : (live : List Live) (new : Live) (begun : ℕ) → new.actor.0 ≡ begun → AreNumbered live begun → AreNumbered (live ++ new ∷ []) (begun + 1)
joined live new begun n h = record {
  below = λ l i. elim (member-append l live (new ∷ []) i) [
    | inl k ↦ step_up l.actor.0 begun (h.below l k)
    | inr k ↦ elim k [ inl e ↦ last_one l.actor.0 begun (ap (λ (x : Live). x.actor.0) (sym e) ∙ n) | inr e ↦ absurd e ]
  ];
  differ = λ l m i j d. elim (member-append l live (new ∷ []) i) [
    | inl k ↦ elim (member-append m live (new ∷ []) j) [
      | inl q ↦ h.differ l m k q d
      | inr q ↦ elim q [ inl e ↦ not_itself l.actor.0 begun (h.below l k) (d ∙ ap (λ (x : Live). x.actor.0) (sym e) ∙ n) | inr e ↦ absurd e ]
    ]
    | inr k ↦ elim k [
      | inl c ↦ elim (member-append m live (new ∷ []) j) [
        | inl q ↦ not_itself m.actor.0 begun (h.below m q) (sym d ∙ ap (λ (x : Live). x.actor.0) (sym c) ∙ n)
        | inr q ↦ elim q [ inl e ↦ sym c ∙ e | inr e ↦ absurd e ]
      ]
      | inr e ↦ absurd e
    ]
  ];
}

fewer : (a : ℕ) (live : List Live) (begun : ℕ) → AreNumbered live begun → AreNumbered (without a live) begun
fewer a live begun h = record {
  below = λ l i. h.below l (without-member a l live i);
  differ = λ l m i j d. h.differ l m (without-member a l live i) (without-member a m live j) d;
}

numbered_by_step : (p : Step) (s : Parts) → Allows p s → IsSound s → AreNumbered (live_by p s.plain.live) (begun_by p s.begun)
numbered_by_step (step.Start who job (started.Live actor) drawn) s a h = joined s.plain.live _ s.begun a.answered.1.number h.numbered
numbered_by_step (step.End actor refusal) s a h = fewer actor.0 s.plain.live s.begun h.numbered
numbered_by_step (step.Abandon actor) s a h = fewer actor.0 s.plain.live s.begun h.numbered
numbered_by_step _ s a h = h.numbered

pub numbered_kept : (p : Step) (s : Parts) → Allows p s → IsSound s → AreNumbered (after_all s.plain (events_of p)).live (begun_by p s.begun)
numbered_kept p s a h = subst (λ live. AreNumbered live (begun_by p s.begun)) (sym (live_after p s a)) (numbered_by_step p s a h)

-- ---- a new actor's own

pub same_self : (m : ℕ) → (m == m) ≡ true
same_self m = grind (arith, nat_tests)

-- the activity of a number that none has yet is the one that joins
find-new : (live : List Live) (new : Live) (a : ℕ) → new.actor.0 ≡ a → ((l : Live) → Member l live → l.actor.0 ≡ a → ⊥) → live_of (live ++ new ∷ []) a ≡ Some new
find-new [] new a e n = ap (λ b. cond b (Some new) None) (ap (λ k. k == a) e ∙ same_self a)
find-new (x ∷ xs) new a e n = (elim (x.actor.0 == a) as (λ b. x.actor.0 == a ≡ b → cond b (Some x) (live_of (xs ++ new ∷ []) a) ≡ Some new) [
  | true ↦ λ d. absurd (n x (inl refl) (same_number x.actor.0 a d))
  | false ↦ λ d. find-new xs new a e (λ l i. n l (inr i))
]) refl

pub new_alone : (s : Parts) (a : ℕ) → a ≡ s.begun → IsSound s → (l : Live) → Member l s.plain.live → l.actor.0 ≡ a → ⊥
new_alone s a n h l i d = not_itself l.actor.0 s.begun (h.numbered.below l i) (d ∙ n)

pub new_found : (s : Parts) (new : Live) → new.actor.0 ≡ s.begun → IsSound s → live_of (s.plain.live ++ new ∷ []) new.actor.0 ≡ Some new
new_found s new n h = find-new s.plain.live new new.actor.0 refl (new_alone s new.actor.0 n h)

-- ---- the pass

moved_pass : (f : Pass → Pass) (pass : Option Pass) (live : List Live) → ((q : Pass) → (f q).actor ≡ q.actor) → PassHeld pass live → PassHeld (option_map f pass) live
moved_pass f pass live k h = record {
  at = λ p e. let w = map_some f pass p e in subst (λ x. HasHold live x holds.Pass) (sym (k w.0) ∙ ap (λ (x : Pass). x.actor) w.2) (h.at w.0 w.1);
}

more_pass : (pass : Option Pass) (live more : List Live) → PassHeld pass live → PassHeld pass (live ++ more)
more_pass pass live more h = record { at = λ p e. hold_front live more p.actor holds.Pass (h.at p e) }

ended_pass : (a : ℕ) (pass : Option Pass) (live : List Live) → PassHeld pass live → PassHeld (ended a pass) (without a live)
ended_pass a None live h = record { at = λ p e. absurd (cc) }
ended_pass a (Some q) live h = record {
  at = λ p e. cond_cases (q.actor == a) None (Some q) (Some p) e
      (λ d i. absurd (cc))
      (λ d i. hold_without live p.actor a holds.Pass (ap (λ (x : Pass). x.actor == a) (sym (some_is i)) ∙ d) (h.at p i));
}
  where
    some_is : {A : Type 0} {x y : A} → Some x ≡ Some y → x ≡ y
    some_is e = (cc)

is_clean : (job : Job) → needs_moment job ≡ true → job ≡ jobs.Clean
is_clean jobs.Clean e = refl
is_clean _ e = absurd (cc)

some_some : {A : Type 0} (o : Option A) (x : A) → o ≡ Some x → is_some o ≡ true
some_some o x e = ap is_some e

new_pass : (s : Parts) (new : Live) (moment : ℕ) (names : List (List ℕ)) (bs : List Base) → new.actor.0 ≡ s.begun → Member holds.Pass new.holds → IsSound s → PassHeld (opened_by new.actor.0 (Some moment) names bs s.pass) (s.plain.live ++ new ∷ [])
new_pass s new moment names bs n m h = record {
  at = λ p e. subst (λ (x : Pass). HasHold (s.plain.live ++ new ∷ []) x.actor holds.Pass) (some_is e) (record { activity = new; at_work = new_found s new n h; held = m });
}
  where
    some_is : {A : Type 0} {x y : A} → Some x ≡ Some y → x ≡ y
    some_is e = (cc)

pass_by_step : (p : Step) (s : Parts) → Allows p s → IsSound s → PassHeld (pass_by p s.lists s.snapshots s.pass) (live_by p s.plain.live)
pass_by_step (step.Start who job (started.Live actor) drawn) s a h =
    (elim drawn.moment as (λ o. drawn.moment ≡ o → PassHeld (opened_by actor.0 o (keys s.snapshots) (map (λ (x : List ℕ × Entry). base_of x.1) drawn.plan.entries) s.pass) (s.plain.live ++ record { actor = actor; job = job; holds = drawn.holds } ∷ [])) [
      | Some m ↦ λ e. new_pass s (record { actor = actor; job = job; holds = drawn.holds }) m (keys s.snapshots) (map (λ (x : List ℕ × Entry). base_of x.1) drawn.plan.entries) a.answered.1.number
          (subst (Member holds.Pass) (sym (a.holds ∙ ap (holds_of a.unreferenced s.plain) (is_clean job (sym a.answered.1.moment ∙ some_some drawn.moment m e)))) (inl refl)) h
      | None ↦ λ e. moved_pass (touched (map (λ (x : List ℕ × Entry). base_of x.1) drawn.plan.entries)) s.pass _ (λ q. refl) (more_pass s.pass s.plain.live _ h.pass_held)
    ]) refl
pass_by_step (step.End actor refusal) s a h = ended_pass actor.0 s.pass s.plain.live h.pass_held
pass_by_step (step.Abandon actor) s a h = ended_pass actor.0 s.pass s.plain.live h.pass_held
pass_by_step (step.PassRead actor name) s a h = moved_pass (read_by name (snapshot_bases (get s.snapshots name))) s.pass s.plain.live (λ q. refl) h.pass_held
pass_by_step (step.Uncomplete actor name) s a h = moved_pass (spared name) s.pass s.plain.live (λ q. refl) h.pass_held
pass_by_step (step.Capture actor region) s a h = moved_pass (touched (map base_of (s.lists region).entries)) s.pass s.plain.live (λ q. refl) h.pass_held
pass_by_step (step.CommitList actor region number name why.Capture list cells planned) s a h = moved_pass (touched (map base_of list.entries)) s.pass s.plain.live (λ q. refl) h.pass_held
pass_by_step (step.Pin actor target (Ok region) major) s a h = moved_pass (touched (map base_of (s.lists region).entries)) s.pass s.plain.live (λ q. refl) h.pass_held
pass_by_step (step.Place actor from base cells) s a h = moved_pass (touched (base ∷ [])) s.pass s.plain.live (λ q. refl) h.pass_held
pass_by_step (step.Link actor base region) s a h = moved_pass (touched (base ∷ [])) s.pass s.plain.live (λ q. refl) h.pass_held
pass_by_step (step.Half actor entry region bytes) s a h = moved_pass (touched (base_of entry ∷ [])) s.pass s.plain.live (λ q. refl) h.pass_held
pass_by_step _ s a h = h.pass_held

pub pass_held_kept : (p : Step) (s : Parts) → Allows p s → IsSound s → PassHeld (pass_by p s.lists s.snapshots s.pass) (after_all s.plain (events_of p)).live
pass_held_kept p s a h = subst (PassHeld (pass_by p s.lists s.snapshots s.pass)) (sym (live_after p s a)) (pass_by_step p s a h)
