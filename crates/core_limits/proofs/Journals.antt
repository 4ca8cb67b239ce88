-- The entries of journals are within their limits.
use Rattle.std.proofs.Common.{◌≡◌, ◌≤◌, ℕ, ◌+◌, ◌*◌, Bool, true, false, arith, List, [], ◌∷◌, Option, Some, None, refl, inl, inr}
use Rattle.std.specs.Prelude.{length}
use Rattle.std.specs.FinMap.{get}
use Rattle.hb_layout.specs.Lawful.{IsEpoch}
use Rattle.ns_tree.specs.Tree.{Tree}
use Rattle.plain_model.specs.declared.parts.PlainTable.{PlainTable}
use Rattle.plain_model.specs.Found.{regions_in}
use Rattle.core_model.specs.declared.journal.JournalEntry.{JournalEntry}
use Rattle.core_model.specs.declared.opening.Opening.{Opening}
use Rattle.core_model.specs.declared.step.Started.TheVariants as started
use Rattle.core_model.specs.declared.step.Step.{Step}
use Rattle.core_model.specs.declared.step.Step.TheVariants as step
use Rattle.core_model.specs.Allows.{Allows, AllowsEntry, AllowsFrom, HasRoom, IsEnding}
use Rattle.core_model.specs.FileChanges.{ids_by}
use Rattle.core_model.specs.Opened.{opened}
use Rattle.core_model.specs.Replay.{after, begun, replay, unless}
use Rattle.core_model.specs.Replay as replay
use Rattle.core_model.specs.Sound.{IsSoundState}
use Rattle.core_model.specs.State.{Parts, State}
use Rattle.core_sound.proofs.Journals.{HasFew, allowed_other, entry_kept, few-begun, few_after, sound-begun}
use Rattle.core_bytes.specs.Laws.{WriteFrom}
use Rattle.core_bytes.specs.Written.{IsWrittenState}
use Rattle.core_contents.specs.Faithful.{IsFaithfulState}
use Rattle.core_contents.proofs.Journals.{entry_faithful}
use Rattle.core_opens.specs.Begins.{CanBegin}
use Rattle.core_opens.proofs.Opens.{begins_valid}
use Rattle.core_regions.specs.Cover.{HaveLimits, IsCovered, IsCoveredState}
use Rattle.core_regions.proofs.Journals.{entry_covered, entry_written, opened_covered}
use Rattle.core_limits.specs.Limits.{HasIds, IsLimited, IsLimitedState, LeadsToLimits}
use Rattle.core_limits.proofs.Kept.{limited_kept}
use Rattle.core_limits.proofs.Planned.{drawn_few}

-- ---- how many ids are drawn

abbrev FewIds : ℕ → ℕ → Type 0
FewIds n ids = (ids ≤ 1000 * n) × (ids ≤ 4_194_304_000)

-- before the n-th entry
record HasFewIds (n : ℕ) (s : State) : Type 0 where
  now : FewIds n s.now.ids
  other : FewIds n s.other.ids

ids_room : (p : Step) (n : ℕ) (s : State) (q : Parts) → HasRoom n p s → Allows p q → IsCovered q → FewIds n q.ids → FewIds (n + 1) (ids_by p q.ids)
ids_room (step.Start who job (started.Live actor) drawn) n s q r a v f = let d = drawn_few job actor drawn q a v in let g = f.0 in (omega (arith, d, g), omega (arith, d, g, r))
ids_room _ n s q r a v f = let g = f.0 in (omega (arith, g), f.1)

ids_ending : (p : Step) (n ids : ℕ) → IsEnding p → FewIds n ids → FewIds (n + 1) (ids_by p ids)
ids_ending (step.End actor refusal) n ids i f = let g = f.0 in (omega (arith, g), f.1)
ids_ending (step.Abandon actor) n ids i f = let g = f.0 in (omega (arith, g), f.1)
ids_ending (step.Unpin actor) n ids i f = let g = f.0 in (omega (arith, g), f.1)
ids_ending _ n ids i f = absurd i

ids_entry : (n : ℕ) (e : JournalEntry) (s : State) (q : Parts) → AllowsEntry n e s → Allows e.step q → IsCovered q → FewIds n q.ids → FewIds (n + 1) (ids_by e.step q.ids)
ids_entry n e s q a b v f = elim a.1 [ inl c ↦ ids_room e.step n s q c.1 b v f | inr c ↦ ids_ending e.step n q.ids c.2 f ]

ids_unless : (b : Bool) (p : Step) (n : ℕ) (s : Parts) → FewIds n s.ids → FewIds (n + 1) (ids_by p s.ids) → FewIds (n + 1) (unless b (after p) s).ids
ids_unless true p n s f w = let g = f.0 in (omega (arith, g), f.1)
ids_unless false p n s f w = w

ids_after : (n : ℕ) (e : JournalEntry) (s : State) → AllowsEntry n e s → IsSoundState s → IsCoveredState s → HasFewIds n s → HasFewIds (n + 1) (replay.step n s e)
ids_after n e s a h v f = record {
  now = ids_unless e.failed e.step n s.now f.now (ids_entry n e s s.now a a.0.1 v.now f.now);
  other = ids_entry n e s s.other a (allowed_other n e s a h) v.other f.other;
}

has_ids : (n : ℕ) (s : Parts) → FewIds n s.ids → HasIds s
has_ids n s f = let g = f.1 in omega (arith, g)

-- ---- at the opening

opened_limited : (o : Opening) (tree : Tree) → CanBegin o tree → IsEpoch o.epoch → IsLimited (opened o)
opened_limited o tree c u = record {
  epoch = u;
  counts = record { at = λ t. few_in t (get (opened o).plain.tables t) refl };
  splits = record { at = λ l t row m. absurd m };
  plans = record { at = λ a. record { few = omega arith; ids = tt } };
  jobs = record { at = λ l m. absurd m };
}
  where
    few_in : (t : List ℕ) (x : Option PlainTable) → get (opened o).plain.tables t ≡ x → length (regions_in x) + 0 ≤ 1000
    few_in t None e = omega arith
    few_in t (Some tb) e = let f = ((opened_covered o tree c).tables.at t tb e).few in omega (arith, f)

-- ---- entries

entry_limited : (n : ℕ) (e : JournalEntry) (s : State) → HasFewIds n s → AllowsEntry n e s → IsSoundState s → IsCoveredState s → IsLimitedState s → IsLimitedState (replay.step n s e)
entry_limited n e s i a h v k = record {
  now = elim e.failed as (λ b. IsLimited (unless b (after e.step) s.now)) [ true ↦ k.now | false ↦ (limited_kept e.step s.now (has_ids n s.now i.now) a.0.1 h.now v.now k.now).1 ];
  other = (limited_kept e.step s.other (has_ids n s.other i.other) (allowed_other n e s a h) h.other v.other k.other).1;
}

limits_from : (n : ℕ) (es : List JournalEntry) (s : State) → HasFew n s → HasFewIds n s → AllowsFrom n s es → WriteFrom n s es → IsSoundState s → IsWrittenState s → IsFaithfulState s → IsCoveredState s → IsLimitedState s → HaveLimits es
limits_from n [] s w i a x h r f v k = tt
limits_from n (e ∷ es) s w i a x h r f v k =
    let l = (limited_kept e.step s.now (has_ids n s.now i.now) a.0.0.1 h.now v.now k.now).0 in (
      l,
      limits_from (n + 1) es (replay.step n s e) (few_after n e s a.0 w) (ids_after n e s a.0 h v i) a.1 x.1 (entry_kept n e s w a.0 h) (entry_written n e s w a.0 x.0 h r) (entry_faithful n e s w a.0 h f)
          (entry_covered n e s w l a.0 h r f v) (entry_limited n e s i a.0 h v k),
    )

pub limits_replay : (o : Opening) (tree : Tree) (es : List JournalEntry) → LeadsToLimits o tree es
limits_replay o tree es c u a x =
    let b = begins_valid o tree c in
    let v = opened_covered o tree c in
    let k = opened_limited o tree c u in
    limits_from 0 es (begun o) (few-begun o) (record { now = (omega arith, omega arith); other = (omega arith, omega arith) }) a x (sound-begun o b.begins.sound)
    (record { now = b.written; other = b.written }) (record { now = b.told.faithful; other = b.told.faithful }) (record { now = v; other = v }) (record { now = k; other = k })
