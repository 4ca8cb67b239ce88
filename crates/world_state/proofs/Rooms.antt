-- Room for a step that is prepared, and for the ends of activities.
use Rattle.std.proofs.Common.{◌≡◌, ℕ, ◌+◌, ◌≤◌, ◌<◌, ◌==◌, Bool, true, false, not, cond, List, [], ◌∷◌, ◌++◌, length, map, find, Some, IfSome, inl, inr, refl, sym, ap, subst, ◌∙◌, arith, length-append}
use Rattle.std.specs.List.{filter}
use Rattle.std.specs.Prelude.{IsSome, vec_len, vec_capacity}
use Rattle.std.proofs.lemmas.List.Elements.{All-nil}
use Rattle.plain_model.specs.declared.parts.Live.{Live}
use Rattle.plain_model.specs.declared.who.Actor.{Actor}
use Rattle.core_model.specs.declared.step.Started.TheVariants as started
use Rattle.core_model.specs.declared.step.Step.{Step}
use Rattle.core_model.specs.declared.step.Step.TheVariants as step
use Rattle.core_model.specs.declared.journal.TheConstants.{JOURNAL_LIMIT}
use Rattle.core_model.specs.Actors.{IsLive}
use Rattle.core_model.specs.Allows.{AllowsEntry, HasRoom, IsEnding, IsWriting, room_of}
use Rattle.core_model.specs.Ops.{op_of}
use Rattle.core_model.specs.State.{State}
use Rattle.core_places.specs.Served.{IsServed}
use Rattle.core_sites.specs.Shows.{MakesSpelled}
use Rattle.world_state.specs.declared.at_work.AtWork.{AtWork}
use Rattle.world_state.specs.declared.at_work.WorkChange.{WorkChange}
use Rattle.world_state.specs.declared.at_work.WorkChange.TheVariants as work
use Rattle.world_state.specs.declared.kept.Core.TheInside.{Inside}
use Rattle.world_state.specs.declared.state.CoreState.{CoreState}
use Rattle.world_state.specs.Changes.{change_by, change_made, nothing, ended, work_change}
use Rattle.world_state.specs.Held.{Held}
use Rattle.world_state.specs.Parts.{is_not, works_with}
use Rattle.world_state.specs.Represents.{IsReady, held}
use Rattle.world_state.specs.Rooms.{HasPlaces, NeedsReady, OnBegin}
use Rattle.world_state.specs.Works.{live_in}
use Rattle.world_state.proofs.Journaled.{entry_of}

-- ---- what was prepared

pub ready : (a : Inside) (h : Held) (p : Step) → held a ≡ h → NeedsReady p (h.prepared ≡ Some p) → IfSome a.prepared (IsReady a) → NeedsReady p (IsReady a p)
ready a h p view is room none = subst (λ o. IfSome o (IsReady a)) (ap (λ (x : Held). x.prepared) view ∙ is none) room

pub ready_change : (a : Inside) (p : Step) → NeedsReady p (IsReady a p) → NeedsReady p (a.ready ≡ change_by p)
ready_change a p r none = (r none).change

pub ready_entry : (a : Inside) (p : Step) → NeedsReady p (IsReady a p) → NeedsReady p (vec_len a.entries + vec_len a.state.works + 2 ≤ vec_capacity a.entries)
ready_entry a p r none = (r none).entry

pub spelled : (a : Inside) (p : Step) → NeedsReady p (IsReady a p) → MakesSpelled (op_of p)
spelled a (step.End actor refusal) r = tt
spelled a (step.Abandon actor) r = tt
spelled a _ r = (r refl).spelled

nothing_fits : (s : CoreState) → HasPlaces s nothing
nothing_fits s = record { counts = tt; drawn = All-nil _; places = tt; written = tt; sets = tt; works = tt }

end_fits : (s : CoreState) (actor : Actor) → HasPlaces s (ended actor)
end_fits s actor = record { counts = tt; drawn = All-nil _; places = tt; written = tt; sets = tt; works = tt }

pub change_fits : (a : Inside) (b : Bool) (p : Step) → NeedsReady p (IsReady a p) → HasPlaces a.state (change_made b p)
change_fits a true p r = nothing_fits a.state
change_fits a false (step.End actor refusal) r = end_fits a.state actor
change_fits a false (step.Abandon actor) r = end_fits a.state actor
change_fits a false _ r = subst (HasPlaces a.state) (r refl).change (r refl).places

pub on_begin : (c : WorkChange) {P : Type 0} → P → OnBegin c P
on_begin work.Same h = tt
on_begin (work.Begins activity) h = h
on_begin (work.Frees actor) h = tt
on_begin (work.Ends actor) h = tt

-- ---- room for ends

length-and : (ws : List AtWork) (w : AtWork) → length (ws ++ w ∷ []) ≡ length ws + 1
length-and ws w = length-append ws (w ∷ [])

length_map : {X : Type 0} (f : AtWork → X) (ws : List AtWork) → length (map f ws) ≡ length ws
length_map f [] = refl
length_map f (w ∷ ws) = let h = length_map f ws in omega (arith, h)

cond_less : (b : Bool) (w : AtWork) (ws : List AtWork) (n : ℕ) → length ws ≤ n → length (cond b (w ∷ ws) ws) ≤ n + 1
cond_less true w ws n h = omega (arith, h)
cond_less false w ws n h = omega (arith, h)

not_more : (a : ℕ) (ws : List AtWork) → length (filter (is_not a) ws) ≤ length ws
not_more a [] = omega arith
not_more a (w ∷ ws) = let h = cond_less (is_not a w) w (filter (is_not a) ws) (length ws) (not_more a ws) in omega (arith, h)

-- who is at work is one less once it ends
one_less : (a : ℕ) (ws : List AtWork) → IsLive (map live_in ws) a → length (filter (is_not a) ws) + 1 ≤ length ws
one_less a [] h = absurd (cc)
one_less a (w ∷ ws) h = by (w.live.actor.0 == a) h (one_less a ws)
  where
    by : (b : Bool) → IsSome (cond b (Some w.live) (find (λ l. l.actor.0 == a) (map live_in ws))) → (IsLive (map live_in ws) a → length (filter (is_not a) ws) + 1 ≤ length ws)
        → length (cond (not b) (w ∷ filter (is_not a) ws) (filter (is_not a) ws)) + 1 ≤ length (w ∷ ws)
    by true i k = let m = not_more a ws in omega (arith, m)
    by false i k = let m = k i in omega (arith, m)

-- a start alone adds one
pub works_grow : (b : Bool) (p : Step) (ws new : List AtWork) → new ≡ works_with (change_made b p).works ws → length new ≤ length ws + room_of p
works_grow true p ws new e = let h = ap length e in omega (arith, h)
works_grow false (step.Start who job (started.Live actor) drawn) ws new e = let h = ap length e ∙ length-and ws _ in omega (arith, h)
works_grow false (step.Start who job (started.Refused reply) drawn) ws new e = let h = ap length e in omega (arith, h)
works_grow false (step.CommitRegions actor table number name set change) ws new e = let h = ap length e ∙ length_map _ ws in omega (arith, h)
works_grow false (step.End actor refusal) ws new e = let h = ap length e in let k = not_more actor.0 ws in omega (arith, h, k)
works_grow false (step.Abandon actor) ws new e = let h = ap length e in let k = not_more actor.0 ws in omega (arith, h, k)
works_grow false _ ws new e = let h = ap length e in omega (arith, h)

at_most_one : (p : Step) → room_of p ≤ 1
at_most_one (step.Start who job answer drawn) = omega arith
at_most_one _ = omega arith

-- who ends is at work
end_less : (actor : ℕ) (ws new : List AtWork) (ls : List Live) → IsLive ls actor → map live_in ws ≡ ls → new ≡ filter (is_not actor) ws → length new + 1 ≤ length ws
end_less actor ws new ls l e w =
    let less = one_less actor ws (subst (λ x. IsLive x actor) (sym e) l) in
    let same = ap length w in
    omega (arith, less, same)

-- an end does not fail
not_failed : (n worker : ℕ) (p : Step) (b : Bool) (s : State) → (IsWriting p → ⊥) → AllowsEntry n (entry_of worker p b) s → b ≡ false
not_failed n worker p false s w a = refl
not_failed n worker p true s w (a, inl h) = absurd (w (h.2 refl))
not_failed n worker p true s w (a, inr h) = h.1

ends_less : (n worker actor : ℕ) (p : Step) (b : Bool) (s : State) (ws new : List AtWork) → (IsWriting p → ⊥) → IsLive s.now.plain.live actor → works_with (work_change p) ws ≡ filter (is_not actor) ws → AllowsEntry n (entry_of worker p b) s
    → map live_in ws ≡ s.now.plain.live → new ≡ works_with (change_made b p).works ws → length new + 1 ≤ length ws
ends_less n worker actor p b s ws new w i f a l e = end_less actor ws new s.now.plain.live i l (e ∙ ap (λ x. works_with (change_made x p).works ws) (not_failed n worker p b s w a) ∙ f)

-- there is room for the ends that may come
pub ends_room : (n worker : ℕ) (p : Step) (b : Bool) (s : State) (ws new : List AtWork) (entries capacity : ℕ) → AllowsEntry n (entry_of worker p b) s → map live_in ws ≡ s.now.plain.live → new ≡ works_with (change_made b p).works ws
    → NeedsReady p (entries + length ws + 2 ≤ capacity) → entries + length ws ≤ capacity → entries + 1 + length new ≤ capacity
ends_room n worker (step.End actor refusal) b s ws new entries capacity a l e r k = let h = ends_less n worker actor.0 (step.End actor refusal) b s ws new (λ x. x) a.0.1 refl a l e in omega (arith, h, k)
ends_room n worker (step.Abandon actor) b s ws new entries capacity a l e r k = let h = ends_less n worker actor.0 (step.Abandon actor) b s ws new (λ x. x) a.0.1 refl a l e in omega (arith, h, k)
ends_room n worker p b s ws new entries capacity a l e r k = let h = works_grow b p ws new e in let o = at_most_one p in let m = r refl in omega (arith, h, o, m)

open_room : (n worker : ℕ) (p : Step) (b : Bool) (s : State) → (IsEnding p → ⊥) → AllowsEntry n (entry_of worker p b) s → HasRoom n p s
open_room n worker p b s h (a, inl i) = i.1
open_room n worker p b s h (a, inr i) = absurd (h i.2)

room_left : (n entries : ℕ) (p : Step) (b : Bool) (s : State) (ws new : List AtWork) → n ≡ entries → map live_in ws ≡ s.now.plain.live → new ≡ works_with (change_made b p).works ws → n + length s.now.plain.live + room_of p < JOURNAL_LIMIT → entries + 1 + length new ≤ JOURNAL_LIMIT
room_left n entries p b s ws new i l e k = let h = works_grow b p ws new e in let m = sym (length_map live_in ws) ∙ ap length l in omega (arith, h, m, i, k)

-- the journal stays within its limit, with the ends that may come
pub limit_kept : (n worker entries : ℕ) (p : Step) (b : Bool) (s : State) (ws new : List AtWork) → IsServed p → n ≡ entries → AllowsEntry n (entry_of worker p b) s → map live_in ws ≡ s.now.plain.live → new ≡ works_with (change_made b p).works ws
    → entries + length ws ≤ JOURNAL_LIMIT → entries + 1 + length new ≤ JOURNAL_LIMIT
limit_kept n worker entries (step.End actor refusal) b s ws new v i a l e k = let h = ends_less n worker actor.0 (step.End actor refusal) b s ws new (λ x. x) a.0.1 refl a l e in omega (arith, h, k)
limit_kept n worker entries (step.Abandon actor) b s ws new v i a l e k = let h = ends_less n worker actor.0 (step.Abandon actor) b s ws new (λ x. x) a.0.1 refl a l e in omega (arith, h, k)
limit_kept n worker entries (step.Unpin actor) b s ws new v i a l e k = absurd v
limit_kept n worker entries p b s ws new v i a l e k = room_left n entries p b s ws new i l e (open_room n worker p b s (λ x. x) a)
