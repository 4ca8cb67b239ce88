-- Each step keeps that what has ended has no pins and no parts of a manifest.
use Rattle.std.proofs.Common.{◌≡◌, ℕ, ◌==◌, true, false, cond, List, [], refl, sym, subst}
use Rattle.std.specs.Prelude.{Ok}
use Rattle.plain_model.specs.After.{after_all}
use Rattle.core_model.specs.declared.step.Started.TheVariants as started
use Rattle.core_model.specs.declared.step.Step.{Step}
use Rattle.core_model.specs.declared.step.Step.TheVariants as step
use Rattle.core_model.specs.ActorChanges.{pins_by, stale_at}
use Rattle.core_model.specs.ActorFacts.{OwnersLive}
use Rattle.core_model.specs.Actors.{IsLive}
use Rattle.core_model.specs.Allows.{Allows}
use Rattle.core_model.specs.Events.{events_of}
use Rattle.cell_sight.specs.Member.{Member}
use Rattle.core_model.specs.Keys.{set_actor}
use Rattle.core_model.specs.LiveChanges.{live_by}
use Rattle.core_model.specs.Sound.{IsSound}
use Rattle.core_model.specs.State.{Parts, Pinned}
use Rattle.core_sound.proofs.LiveKept.{live_after}
use Rattle.core_sound.proofs.PlansKept.{live_front, live_left}
use Rattle.core_sound.proofs.Sources.{map-member}
use Rattle.core_sound.proofs.Tests.{same_number}

pin_cases : {P : Type 0} (a : ℕ) (ps : List Pinned) (pins : ℕ → List Pinned) (w : ℕ) (p : Pinned) → Member p (set_actor a ps pins w) → (w ≡ a → Member p ps → P) → (w == a ≡ false → Member p (pins w) → P) → P
pin_cases {P} a ps pins w p m f g = (elim (w == a) as (λ b. w == a ≡ b → Member p (cond b ps (pins w)) → P) [ true ↦ λ d k. f (same_number w a d) k | false ↦ λ d k. g d k ]) refl m

owners_by_step : (p : Step) (s : Parts) → Allows p s → IsSound s → OwnersLive (live_by p s.plain.live) (pins_by p s.lists s.pins)
owners_by_step (step.Start who job (started.Live actor) drawn) s a h = record {
  pinning = λ w p m. live_front s.plain.live _ w (h.owners.pinning w p m);
}
owners_by_step (step.Pin actor target (Ok region) major) s a h = record {
  pinning = λ w p m. pin_cases actor.0 _ s.pins w p m (λ e k. subst (IsLive s.plain.live) (sym e) a.live) (λ d k. h.owners.pinning w p k);
}
owners_by_step (step.CommitList actor region number name reason list cells more) s a h = record {
  pinning = λ w p m. pin_cases actor.0 _ s.pins w p m (λ e k. let v = map-member (stale_at region) p (s.pins actor.0) k in subst (IsLive s.plain.live) (sym e) (h.owners.pinning actor.0 v.0 v.1)) (λ d k. h.owners.pinning w p k);
}
owners_by_step (step.Unpin actor) s a h = record {
  pinning = λ w p m. pin_cases actor.0 [] s.pins w p m (λ e k. absurd k) (λ d k. h.owners.pinning w p k);
}
owners_by_step (step.End actor refusal) s a h = record {
  pinning = λ w p m. pin_cases actor.0 [] s.pins w p m (λ e k. absurd k) (λ d k. live_left s.plain.live w actor.0 d (h.owners.pinning w p k));
}
owners_by_step (step.Abandon actor) s a h = record {
  pinning = λ w p m. pin_cases actor.0 [] s.pins w p m (λ e k. absurd k) (λ d k. live_left s.plain.live w actor.0 d (h.owners.pinning w p k));
}
owners_by_step _ s a h = h.owners

pub owners_kept : (p : Step) (s : Parts) → Allows p s → IsSound s → OwnersLive (after_all s.plain (events_of p)).live (pins_by p s.lists s.pins)
owners_kept p s a h = subst (λ live. OwnersLive live (pins_by p s.lists s.pins)) (sym (live_after p s a)) (owners_by_step p s a h)
