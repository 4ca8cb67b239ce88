-- What each step keeps, each entry of a journal keeps, done or failed.
use Rattle.std.proofs.Common.{◌≡◌, ◌==◌, ◌≤◌, ℕ, zero, suc, ◌+◌, arith, Bool, true, false, cond, List, [], ◌∷◌, take, None, refl, sym, ap, ◌∙◌, subst, inl, inr}
use Rattle.std.specs.Prelude.{map}
use Rattle.plain_model.specs.declared.parts.Live.{Live}
use Rattle.core_model.specs.declared.journal.JournalEntry.{JournalEntry}
use Rattle.core_model.specs.declared.opening.Opening.{Opening}
use Rattle.core_model.specs.declared.region_files.RegionFiles.{RegionFiles}
use Rattle.plain_model.specs.declared.region_key.RegionKey.{RegionKey}
use Rattle.core_model.specs.declared.targets.MoveFrom.TheVariants as moves
use Rattle.core_model.specs.declared.step.Step.{Step}
use Rattle.core_model.specs.declared.step.Step.TheVariants as step
use Rattle.core_model.specs.ActorChanges.{pins_by, stale_at}
use Rattle.core_model.specs.Actors.{IsLive}
use Rattle.core_model.specs.Allows.{Allows, AllowsEntry, AllowsFrom, AllowsAll, HasRoom, IsEnding, IsWriting}
use Rattle.core_model.specs.FileChanges.{files_by}
use Rattle.core_model.specs.LiveChanges.{live_by}
use Rattle.core_model.specs.Opened.{opened}
use Rattle.core_model.specs.Replay.{after, unless, closed_by, replay_from, begun, replay}
use Rattle.core_model.specs.Replay as replay
use Rattle.core_model.specs.Sound.{IsSound, IsSoundState}
use Rattle.core_model.specs.State.{Parts, State, Pinned}
use Rattle.core_sound.proofs.Kept.{sound_kept}
use Rattle.core_sound.proofs.LiveKept.{live_after}
use Rattle.core_sound.proofs.Tests.{cond_cases, same_number}

-- ---- how many names are drawn

-- before the n-th entry
pub record HasFew (n : ℕ) (s : State) : Type 0 where
  pub now : s.now.files ≤ n
  pub now_limit : s.now.files ≤ 4_194_304
  pub other : s.other.files ≤ n
  pub other_limit : s.other.files ≤ 4_194_304

abbrev IsFew : ℕ → ℕ → Type 0
IsFew n f = (f ≤ n) × (f ≤ 4_194_304)

files_room : (p : Step) (n : ℕ) (s : State) (f : ℕ) → HasRoom n p s → f ≤ n → f ≤ 4_194_304 → IsFew (n + 1) (files_by p f)
files_room (step.WriteTmp actor recipe name cells bytes) n s f r h k = (omega (arith, h), omega (arith, r, h))
files_room (step.Place actor (moves.StagedBulk folder name) base cells) n s f r h k = (omega (arith, h), omega (arith, r, h))
files_room (step.Place actor (moves.Written name) base cells) n s f r h k = (omega (arith, h), k)
files_room (step.Place actor (moves.WrittenBulk name) base cells) n s f r h k = (omega (arith, h), k)
files_room _ n s f r h k = (omega (arith, h), k)

files_ending : (p : Step) (n f : ℕ) → IsEnding p → f ≤ n → f ≤ 4_194_304 → IsFew (n + 1) (files_by p f)
files_ending (step.End actor refusal) n f i h k = (omega (arith, h), k)
files_ending (step.Abandon actor) n f i h k = (omega (arith, h), k)
files_ending (step.Unpin actor) n f i h k = (omega (arith, h), k)
files_ending _ n f i h k = absurd i

few_files : (n : ℕ) (e : JournalEntry) (s : State) (f : ℕ) → AllowsEntry n e s → f ≤ n → f ≤ 4_194_304 → IsFew (n + 1) (files_by e.step f)
few_files n e s f a h k = elim a.1 [ inl c ↦ files_room e.step n s f c.1 h k | inr c ↦ files_ending e.step n f c.2 h k ]

few_unless : (b : Bool) (p : Step) (n : ℕ) (s : Parts) → s.files ≤ n → s.files ≤ 4_194_304 → IsFew (n + 1) (files_by p s.files) → IsFew (n + 1) (unless b (after p) s).files
few_unless true p n s h k w = (omega (arith, h), k)
few_unless false p n s h k w = w

pub few_after : (n : ℕ) (e : JournalEntry) (s : State) → AllowsEntry n e s → HasFew n s → HasFew (n + 1) (replay.step n s e)
few_after n e s a h =
    let x = few_unless e.failed e.step n s.now h.now h.now_limit (few_files n e s s.now.files a h.now h.now_limit) in
    let y = few_files n e s s.other.files a h.other h.other_limit in
    record { now = x.0; now_limit = x.1; other = y.0; other_limit = y.1 }

-- ---- what ends in the one tree can end in the other

end_allowed : (p : Step) (s o : Parts) → IsEnding p → o.plain.live ≡ s.plain.live → ((a : ℕ) → o.pins a ≡ [] → s.pins a ≡ []) → Allows p s → Allows p o
end_allowed (step.End actor refusal) s o i e k a = subst (λ (l : List Live). IsLive l actor.0) (sym e) a
end_allowed (step.Abandon actor) s o i e k a = subst (λ (l : List Live). IsLive l actor.0) (sym e) a
end_allowed (step.Unpin actor) s o i e k a = (subst (λ (l : List Live). IsLive l actor.0) (sym e) a.0, λ z. a.1 (k actor.0 z))
end_allowed _ s o i e k a = absurd i

pub allowed_other : (n : ℕ) (e : JournalEntry) (s : State) → AllowsEntry n e s → IsSoundState s → Allows e.step s.other
allowed_other n e s a h = elim a.1 [ inl c ↦ subst (Allows e.step) (sym (h.one c.0)) a.0.1 | inr c ↦ end_allowed e.step s.now s.other c.2 h.live h.pins a.0.1 ]

-- ---- what can fail starts and ends nothing

writing_live : (p : Step) (live : List Live) → IsWriting p → live_by p live ≡ live
writing_live (step.Start who job started drawn) live w = absurd w
writing_live (step.End actor refusal) live w = absurd w
writing_live (step.Abandon actor) live w = absurd w
writing_live _ live w = refl

map_none : (f : Pinned → Pinned) (xs : List Pinned) → map f xs ≡ [] → xs ≡ []
map_none f [] e = refl
map_none f (x ∷ xs) e = absurd (cc)

writing_pins : (p : Step) (lists : RegionKey → RegionFiles) (pins : ℕ → List Pinned) (a : ℕ) → IsWriting p → pins_by p lists pins a ≡ [] → pins a ≡ []
writing_pins (step.Pin actor target found major) lists pins a w e = absurd w
writing_pins (step.CommitList actor region number name why list cells planned) lists pins a w e = cond_cases (a == actor.0) (map (stale_at region) (pins actor.0)) (pins a) [] e
    (λ d i. ap pins (same_number a actor.0 d) ∙ map_none (stale_at region) (pins actor.0) i) (λ d i. i)
writing_pins (step.Unpin actor) lists pins a w e = absurd w
writing_pins (step.End actor refusal) lists pins a w e = absurd w
writing_pins (step.Abandon actor) lists pins a w e = absurd w
writing_pins _ lists pins a w e = e

freed : (b : Bool) (xs ys : List Pinned) → (xs ≡ [] → ys ≡ []) → cond b [] xs ≡ [] → cond b [] ys ≡ []
freed true xs ys k e = refl
freed false xs ys k e = k e

ending_pins : (p : Step) (s o : Parts) (a : ℕ) → IsEnding p → ((a : ℕ) → o.pins a ≡ [] → s.pins a ≡ []) → (after p o).pins a ≡ [] → (after p s).pins a ≡ []
ending_pins (step.End actor refusal) s o a i k = freed (a == actor.0) (o.pins a) (s.pins a) (k a)
ending_pins (step.Abandon actor) s o a i k = freed (a == actor.0) (o.pins a) (s.pins a) (k a)
ending_pins (step.Unpin actor) s o a i k = freed (a == actor.0) (o.pins a) (s.pins a) (k a)
ending_pins _ s o a i k = absurd i

-- a failed entry is of a step that writes to the store, in a world that is not closed
failed_writes : (n : ℕ) (e : JournalEntry) (s : State) → AllowsEntry n e s → e.failed ≡ true → IsWriting e.step
failed_writes n e s a f = elim a.1 [ inl c ↦ c.2 f | inr c ↦ (let z : true ≡ false = sym f ∙ c.1 in absurd (cc)) ]

-- ---- entries

one_kept : (n : ℕ) (b : Bool) (p : Step) (s : State) → (s.closed ≡ None → s.other ≡ s.now) → closed_by n b s.closed ≡ None → after p s.other ≡ unless b (after p) s.now
one_kept n true p s h e = absurd (cc)
one_kept n false p s h e = ap (after p) (h e)

live_kept : (b : Bool) (p : Step) (s : State) → Allows p s.now → Allows p s.other → (b ≡ true → IsWriting p) → IsSoundState s → (after p s.other).plain.live ≡ (unless b (after p) s.now).plain.live
live_kept true p s a o w h = live_after p s.other o ∙ writing_live p s.other.plain.live (w refl) ∙ h.live
live_kept false p s a o w h = live_after p s.other o ∙ ap (live_by p) h.live ∙ sym (live_after p s.now a)

pins_done : (n : ℕ) (e : JournalEntry) (s : State) → AllowsEntry n e s → IsSoundState s → (a : ℕ) → (after e.step s.other).pins a ≡ [] → (after e.step s.now).pins a ≡ []
pins_done n e s l h a = elim l.1 [
  | inl c ↦ subst (λ (o : Parts). (after e.step o).pins a ≡ [] → (after e.step s.now).pins a ≡ []) (sym (h.one c.0)) (λ z. z)
  | inr c ↦ ending_pins e.step s.now s.other a c.2 h.pins
]

pins_kept : (n : ℕ) (e : JournalEntry) (s : State) → AllowsEntry n e s → IsSoundState s → (a : ℕ) → (after e.step s.other).pins a ≡ [] → (unless e.failed (after e.step) s.now).pins a ≡ []
pins_kept n e s l h a = elim e.failed as (λ b. e.failed ≡ b → (after e.step s.other).pins a ≡ [] → (unless b (after e.step) s.now).pins a ≡ []) [
  | true ↦ λ f z. h.pins a (writing_pins e.step s.other.lists s.other.pins a (failed_writes n e s l f) z)
  | false ↦ λ f z. pins_done n e s l h a z
] refl

pub entry_kept : (n : ℕ) (e : JournalEntry) (s : State) → HasFew n s → AllowsEntry n e s → IsSoundState s → IsSoundState (replay.step n s e)
entry_kept n e s w a h = let o = allowed_other n e s a h in record {
  now = elim e.failed as (λ b. IsSound (unless b (after e.step) s.now)) [ true ↦ h.now | false ↦ sound_kept e.step s.now w.now_limit a.0.1 h.now ];
  other = sound_kept e.step s.other w.other_limit o h.other;
  one = one_kept n e.failed e.step s h.one;
  live = live_kept e.failed e.step s a.0.1 o (failed_writes n e s a) h;
  pins = pins_kept n e s a h;
}

-- ---- journals

pub sound_from : (n : ℕ) (es : List JournalEntry) (s : State) → HasFew n s → AllowsFrom n s es → IsSoundState s → IsSoundState (replay_from n s es)
sound_from n [] s w a h = h
sound_from n (e ∷ es) s w a h = sound_from (n + 1) es (replay.step n s e) (few_after n e s a.0 w) a.1 (entry_kept n e s w a.0 h)

pub few-begun : (o : Opening) → HasFew 0 (begun o)
few-begun o = record { now = omega arith; now_limit = omega arith; other = omega arith; other_limit = omega arith }

pub allows_front : (k n : ℕ) (es : List JournalEntry) (s : State) → AllowsFrom n s es → AllowsFrom n s (take k es)
allows_front zero n es s a = tt
allows_front (suc k) n [] s a = tt
allows_front (suc k) n (e ∷ es) s a = (a.0, allows_front k (n + 1) es (replay.step n s e) a.1)

pub sound-begun : (o : Opening) → IsSound (opened o) → IsSoundState (begun o)
sound-begun o h = record { now = h; other = h; one = λ e. refl; live = refl; pins = λ a z. z }

-- every front of a journal of allowed entries leads to a sound state
pub sound_replay : (o : Opening) (es : List JournalEntry) → IsSound (opened o) → AllowsAll o es → (k : ℕ) → IsSoundState (replay o (take k es))
unfolding replay
sound_replay o es h a k = sound_from 0 (take k es) (begun o) (few-begun o) (allows_front k 0 es (begun o) a) (sound-begun o h)
