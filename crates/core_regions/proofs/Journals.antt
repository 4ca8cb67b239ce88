-- So do the entries of journals.
use Rattle.std.proofs.Common.{◌≡◌, ℕ, ◌+◌, zero, suc, Bool, true, false, List, [], ◌∷◌, take, Option, Some, None, refl, sym, ◌∙◌, subst}
use Rattle.ns_tree.specs.Tree.{Tree}
use Rattle.plain_model.specs.declared.parts.PlainTable.{PlainTable}
use Rattle.region_set.specs.declared.region_set.RegionSet.{RegionSet}
use Rattle.region_set.specs.declared.set_state.SetState.{SetState}
use Rattle.region_set.specs.declared.set_state.SetState.TheVariants as states
use Rattle.core_model.specs.declared.journal.JournalEntry.{JournalEntry}
use Rattle.core_model.specs.declared.opening.Opening.{Opening}
use Rattle.core_model.specs.Allows.{AllowsEntry, AllowsFrom}
use Rattle.core_model.specs.Disk.{disk_of}
use Rattle.core_model.specs.Opened as opened
use Rattle.core_model.specs.Replay.{after, begun, replay, replay_from, unless}
use Rattle.core_model.specs.Replay as replay
use Rattle.core_model.specs.Sound.{IsSoundState}
use Rattle.core_model.specs.State.{State}
use Rattle.core_sound.proofs.Journals.{HasFew, allowed_other, allows_front, entry_kept, few-begun, few_after, sound-begun}
use Rattle.core_bytes.specs.Laws.{WriteFrom}
use Rattle.core_bytes.specs.Stored.{table_in_set}
use Rattle.core_bytes.specs.Written.{IsWritten, IsWrittenState, Writes}
use Rattle.core_bytes.proofs.Journals.{writes_front, writes_other}
use Rattle.core_bytes.proofs.WrittenKept.{written_kept}
use Rattle.core_contents.specs.Faithful.{IsFaithfulState}
use Rattle.core_contents.proofs.Journals.{entry_faithful}
use Rattle.core_opens.specs.Begins.{CanBegin}
use Rattle.core_opens.specs.Fits.{FitsSet, FitsTable}
use Rattle.core_opens.proofs.Opens.{begins_valid}
use Rattle.core_opens.proofs.Read.{snapshot_is, table_is}
use Rattle.core_regions.specs.Cover.{HaveLimits, HasLimits, IsCovered, IsCoveredState, IsFitTable, LeadsToCovered}
use Rattle.core_regions.proofs.Kept.{covered_kept}

-- ---- at the opening

set_fit : (state : SetState) (set : RegionSet) (tb : PlainTable) → opened.table_in state set ≡ Some tb → FitsSet state set → IsFitTable tb
set_fit states.Enabled set tb e f = from_table true set tb (some_is e) f
  where
    some_is : {a b : PlainTable} → Some a ≡ Some b → a ≡ b
    some_is z = (cc)

    from_table : (b : Bool) (set : RegionSet) (tb : PlainTable) → record { enabled = b; schema = set.schema; regions = set.regions } ≡ tb → FitsTable set → IsFitTable tb
    from_table b set tb e f = subst IsFitTable e (record { regions = f.regions; few = f.few; families = f.families; differ = f.differ })
set_fit states.Disabled set tb e f = from_table false set tb (some_is e) f
  where
    some_is : {a b : PlainTable} → Some a ≡ Some b → a ≡ b
    some_is z = (cc)

    from_table : (b : Bool) (set : RegionSet) (tb : PlainTable) → record { enabled = b; schema = set.schema; regions = set.regions } ≡ tb → FitsTable set → IsFitTable tb
    from_table b set tb e f = subst IsFitTable e (record { regions = f.regions; few = f.few; families = f.families; differ = f.differ })
set_fit states.Dropped set tb e f = absurd (cc)

read_fit : (o : Option RegionSet) (tb : PlainTable) → table_in_set o ≡ Some tb → ((s : RegionSet) → o ≡ Some s → FitsSet s.state s) → IsFitTable tb
read_fit None tb e f = absurd (cc)
read_fit (Some s) tb e f = set_fit s.state s tb e (f s refl)

pub opened_covered : (o : Opening) (tree : Tree) → CanBegin o tree → IsCovered (opened.opened o)
opened_covered o tree c = record {
  tables = record { at = λ t tb e. read_fit (c.valid.complete.says.sets t) tb (sym (table_is (disk_of tree) o.found c.valid.complete.says t c.found) ∙ e) (c.valid.fit.sets t) };
  snapshots = record { at = λ name x e. let f = c.valid.fit.snapshots name x (sym (snapshot_is (disk_of tree) o.found c.valid.complete.says name c.found) ∙ e) in record { regions = f.regions; families = f.families; table = f.table } };
  plans = record { at = λ a job j. absurd (cc) };
  held = record { at = λ a r j. absurd (cc) };
}

-- ---- entries

pub limits_front : (k : ℕ) (es : List JournalEntry) → HaveLimits es → HaveLimits (take k es)
limits_front zero es h = tt
limits_front (suc k) [] h = tt
limits_front (suc k) (e ∷ es) h = (h.0, limits_front k es h.1)

pub entry_covered : (n : ℕ) (e : JournalEntry) (s : State) → HasFew n s → HasLimits e.step → AllowsEntry n e s → IsSoundState s → IsWrittenState s → IsFaithfulState s → IsCoveredState s → IsCoveredState (replay.step n s e)
entry_covered n e s w l a h i f k = record {
  now = elim e.failed as (λ b. IsCovered (unless b (after e.step) s.now)) [ true ↦ k.now | false ↦ covered_kept e.step s.now w.now_limit l a.0.1 h.now i.now f.now k.now ];
  other = covered_kept e.step s.other w.other_limit l (allowed_other n e s a h) h.other i.other f.other k.other;
}

pub entry_written : (n : ℕ) (e : JournalEntry) (s : State) → HasFew n s → AllowsEntry n e s → Writes e.step s.now → IsSoundState s → IsWrittenState s → IsWrittenState (replay.step n s e)
entry_written n e s w a x h i = record {
  now = elim e.failed as (λ b. IsWritten (unless b (after e.step) s.now)) [ true ↦ i.now | false ↦ written_kept e.step s.now w.now_limit a.0.1 x h.now i.now ];
  other = written_kept e.step s.other w.other_limit (allowed_other n e s a h) (writes_other n e s a h x) h.other i.other;
}

covered_from : (n : ℕ) (es : List JournalEntry) (s : State) → HasFew n s → HaveLimits es → AllowsFrom n s es → WriteFrom n s es → IsSoundState s → IsWrittenState s → IsFaithfulState s → IsCoveredState s → IsCoveredState (replay_from n s es)
covered_from n [] s w l a x h i f k = k
covered_from n (e ∷ es) s w l a x h i f k = covered_from (n + 1) es (replay.step n s e) (few_after n e s a.0 w) l.1 a.1 x.1 (entry_kept n e s w a.0 h) (entry_written n e s w a.0 x.0 h i) (entry_faithful n e s w a.0 h f) (entry_covered n e s w l.0 a.0 h i f k)

pub covered_replay : (o : Opening) (tree : Tree) (es : List JournalEntry) (k : ℕ) → LeadsToCovered o tree es k
unfolding replay
covered_replay o tree es k c l a x =
    let b = begins_valid o tree c in
    let h = opened_covered o tree c in
    covered_from 0 (take k es) (begun o) (few-begun o) (limits_front k es l) (allows_front k 0 es (begun o) a) (writes_front k 0 es (begun o) x) (sound-begun o b.begins.sound)
    (record { now = b.written; other = b.written }) (record { now = b.told.faithful; other = b.told.faithful }) (record { now = h; other = h })
