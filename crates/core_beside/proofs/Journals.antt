-- So do the entries of journals.
use Rattle.std.proofs.Common.{ℕ, ◌+◌, Bool, true, false, List, [], ◌∷◌, take, sym, ◌∙◌, subst, inl, inr}
use Rattle.ns_tree.specs.Tree.{Tree}
use Rattle.plain_model.specs.declared.region_key.RegionKey.{RegionKey}
use Rattle.core_model.specs.declared.journal.JournalEntry.{JournalEntry}
use Rattle.core_model.specs.declared.opening.Opening.{Opening}
use Rattle.core_model.specs.declared.region_files.RegionFiles.{RegionFiles}
use Rattle.core_model.specs.Actors.{InSet}
use Rattle.core_model.specs.Allows.{AllowsEntry, AllowsFrom}
use Rattle.core_model.specs.Disk.{Disk, disk_of}
use Rattle.core_model.specs.Opened.{found_list, opened}
use Rattle.core_model.specs.Replay.{after, begun, replay, replay_from, unless}
use Rattle.core_model.specs.Replay as replay
use Rattle.core_model.specs.Sound.{IsSoundState}
use Rattle.core_model.specs.State.{State}
use Rattle.core_sound.proofs.Journals.{HasFew, allowed_other, allows_front, entry_kept, few-begun, few_after, sound-begun}
use Rattle.core_contents.specs.Faithful.{IsFaithfulState}
use Rattle.core_contents.proofs.Journals.{entry_faithful}
use Rattle.core_recovers.specs.Reading.{IsIn}
use Rattle.core_opens.specs.Begins.{CanBegin}
use Rattle.core_opens.proofs.Opens.{begins_valid}
use Rattle.core_opens.proofs.Read.{snapshot_is, table_is, tables_in}
use Rattle.core_beside.specs.Apart.{IsBeside, IsBesideState, LeadsToBeside}
use Rattle.core_beside.proofs.Commits.{AreBeside}
use Rattle.core_beside.proofs.Kept.{beside_kept}

-- ---- at the opening

in_set : (d : Disk) (o : Opening) (tree : Tree) (c : CanBegin o tree) (r : RegionKey) (split : Bool) → InSet (tables_in o.found) r split → IsIn c.valid.complete.says.sets r split
in_set d o tree c r split i = record { table = i.table; stands = sym (table_is (disk_of tree) o.found c.valid.complete.says r.table c.found) ∙ i.stands; info = i.info; listed = i.listed; key = i.key }

listed_beside : (o : Opening) (tree : Tree) (c : CanBegin o tree) (r : RegionKey) (split : Bool) → InSet (tables_in o.found) r split → AreBeside (found_list o.found.lists r).entries
listed_beside o tree c r split i = subst (λ (l : RegionFiles). AreBeside l.entries) (sym (c.found.lists r)) (c.valid.fit.lists r split (in_set (disk_of tree) o tree c r split i)).beside

pub opened_beside : (o : Opening) (tree : Tree) → CanBegin o tree → IsBeside (opened o)
opened_beside o tree c = record {
  unused = record { at = λ b a e. absurd (cc) };
  beside = record {
    listed = λ r i. elim i [ inl j ↦ listed_beside o tree c r false j | inr j ↦ listed_beside o tree c r true j ];
    copied = λ name x r e m. ((c.valid.fit.snapshots name x (sym (snapshot_is (disk_of tree) o.found c.valid.complete.says name c.found) ∙ e)).entries r m).beside;
    captured = λ a r l e. absurd (cc);
  };
  loads = record { at = λ a. tt };
  placed = record { drawn = λ a p m. absurd m; gone = λ a p f m. absurd m; once = λ a p q m. absurd m };
}

-- ---- entries

pub entry_beside : (n : ℕ) (e : JournalEntry) (s : State) → HasFew n s → AllowsEntry n e s → IsSoundState s → IsFaithfulState s → IsBesideState s → IsBesideState (replay.step n s e)
entry_beside n e s w a h f k = record {
  now = elim e.failed as (λ b. IsBeside (unless b (after e.step) s.now)) [ true ↦ k.now | false ↦ beside_kept e.step s.now w.now_limit a.0.1 h.now f.now k.now ];
  other = beside_kept e.step s.other w.other_limit (allowed_other n e s a h) h.other f.other k.other;
}

beside_from : (n : ℕ) (es : List JournalEntry) (s : State) → HasFew n s → AllowsFrom n s es → IsSoundState s → IsFaithfulState s → IsBesideState s → IsBesideState (replay_from n s es)
beside_from n [] s w a h f k = k
beside_from n (e ∷ es) s w a h f k = beside_from (n + 1) es (replay.step n s e) (few_after n e s a.0 w) a.1 (entry_kept n e s w a.0 h) (entry_faithful n e s w a.0 h f) (entry_beside n e s w a.0 h f k)

pub beside_replay : (o : Opening) (tree : Tree) (es : List JournalEntry) (k : ℕ) → LeadsToBeside o tree es k
unfolding replay
beside_replay o tree es k c a =
    let b = begins_valid o tree c in
    let h = opened_beside o tree c in
    beside_from 0 (take k es) (begun o) (few-begun o) (allows_front k 0 es (begun o) a) (sound-begun o b.begins.sound) (record { now = b.told.faithful; other = b.told.faithful }) (record { now = h; other = h })
