-- In each state of a journal of allowed entries files are what they were written of.
use Rattle.std.proofs.Common.{◌≡◌, ℕ, zero, suc, ◌+◌, true, false, cond, List, [], ◌∷◌, take, Some, None, refl, sym, ap, ◌∙◌, subst, inl, inr}
use Rattle.std.specs.FinMap.{empty, get, get-empty}
use Rattle.std.specs.Cmp.Lexicographic.{slice_cmp}
use Rattle.std.specs.Ordering.{nat_cmp}
use Rattle.hb_cell.specs.Order.{bytes_cmp}
use Rattle.ns_tree.specs.declared.file.FileState.{FileState}
use Rattle.ns_tree.specs.Tree.{Tree}
use Rattle.core_model.specs.declared.journal.JournalEntry.{JournalEntry}
use Rattle.core_model.specs.declared.opening.Opening.{Opening}
use Rattle.core_model.specs.declared.step.Step.{Step}
use Rattle.core_model.specs.declared.step.Step.TheVariants as step
use Rattle.core_model.specs.Allows.{AllowsEntry, AllowsFrom, IsEnding}
use Rattle.core_model.specs.Disk.{disk_of, is_regular}
use Rattle.core_model.specs.Entries.{file_of}
use Rattle.core_model.specs.Replay.{after, unless, replay_from, begun, replay}
use Rattle.core_model.specs.Replay as replay
use Rattle.core_model.specs.Site.{Site, Tmp, Live, Archived, Info, site_text}
use Rattle.core_model.specs.Sound.{IsSoundState}
use Rattle.core_model.specs.State.{Parts, State}
use Rattle.core_sound.proofs.Journals.{HasFew, few_after, few-begun, allowed_other, entry_kept, sound-begun, allows_front}
use Rattle.core_bytes.specs.Laws.{WriteFrom, LeadsToWritten, BeginsWritten}
use Rattle.core_bytes.specs.Stored.{unwritten, table_in_set}
use Rattle.core_bytes.specs.Written.{Writes, IsWritten, IsWrittenState}
use Rattle.core_bytes.proofs.WrittenKept.{written_kept}

-- ---- an entry

-- an ending writes no file
ending_writes : (p : Step) (s : Parts) → IsEnding p → Writes p s
ending_writes (step.End actor refusal) s e = record { file = tt; moved = tt; part = tt }
ending_writes (step.Abandon actor) s e = record { file = tt; moved = tt; part = tt }
ending_writes (step.Unpin actor) s e = record { file = tt; moved = tt; part = tt }
ending_writes _ s e = absurd e

-- what a step writes in the one tree it writes in the other
pub writes_other : (n : ℕ) (e : JournalEntry) (s : State) → AllowsEntry n e s → IsSoundState s → Writes e.step s.now → Writes e.step s.other
writes_other n e s a h m = elim a.1 [
  | inl c ↦ subst (Writes e.step) (sym (h.one c.0)) m
  | inr c ↦ ending_writes e.step s.other c.2
]

written_entry : (n : ℕ) (e : JournalEntry) (s : State) → HasFew n s → AllowsEntry n e s → Writes e.step s.now → IsSoundState s → IsWrittenState s → IsWrittenState (replay.step n s e)
written_entry n e s w a m h k = record {
  now = elim e.failed as (λ b. IsWritten (unless b (after e.step) s.now)) [ true ↦ k.now | false ↦ written_kept e.step s.now w.now_limit a.0.1 m h.now k.now ];
  other = written_kept e.step s.other w.other_limit (allowed_other n e s a h) (writes_other n e s a h m) h.other k.other;
}

-- ---- journals

written_from : (n : ℕ) (es : List JournalEntry) (s : State) → HasFew n s → AllowsFrom n s es → WriteFrom n s es → IsSoundState s → IsWrittenState s → IsWrittenState (replay_from n s es)
written_from n [] s w a f h k = k
written_from n (e ∷ es) s w a f h k =
    written_from (n + 1) es (replay.step n s e) (few_after n e s a.0 w) a.1 f.1 (entry_kept n e s w a.0 h) (written_entry n e s w a.0 f.0 h k)

pub writes_front : (k n : ℕ) (es : List JournalEntry) (s : State) → WriteFrom n s es → WriteFrom n s (take k es)
writes_front zero n es s a = tt
writes_front (suc k) n [] s a = tt
writes_front (suc k) n (e ∷ es) s a = (a.0, writes_front k (n + 1) es (replay.step n s e) a.1)

pub written_replay : (o : Opening) (es : List JournalEntry) (k : ℕ) → LeadsToWritten o es k
unfolding replay
written_replay o es k h w a f =
    written_from 0 (take k es) (begun o) (few-begun o) (allows_front k 0 es (begun o) a) (writes_front k 0 es (begun o) f) (sound-begun o h) (record { now = w; other = w })

-- ---- a store without files

abbrev bare : Tree
bare = empty

nothing : (q : Site) → disk_of bare q ≡ None
nothing q = elim (is_regular q) as (λ b. cond b (get bare (site_text q)) None ≡ None) [ true ↦ get-empty (slice_cmp nat_cmp) (site_text q) | false ↦ refl ]

absent : {P : Type 0} (q : Site) (f : FileState) → disk_of bare q ≡ Some f → P
absent q f e = let z : None ≡ Some f = sym (nothing q) ∙ e in absurd (cc)

no_value : {X P : Type 0} (name : List ℕ) (x : X) → get (empty {R = bytes_cmp}) name ≡ Some x → P
no_value {X} name x e = let z : None ≡ Some x = sym (get-empty bytes_cmp name) ∙ e in absurd (cc)

pub bare_begins : (epoch ttl : ℕ) → BeginsWritten epoch ttl
bare_begins epoch ttl = (
  record {
    files = record { live_made = λ b f e. absent (Live b) f e; archived_made = λ b f e. absent (Archived b) f e };
    tmps = record { at = λ name f w e. absent (Tmp name) f e };
    tied = record { at = λ name w e. absurd (cc) };
    references = record { at = λ r e f n i k. absent (Live (file_of r e)) f k };
    parts = record { info = λ a name t f x e. absurd (cc); manifest = λ a name t f x e. absurd (cc); captured = λ a name t x e. absurd (cc); undone = λ a e. absurd (cc) };
    manifests = record { at = λ name x f g e i. absent (Info name) f i };
    lists = record { at = λ r c. unwritten refl };
    sets = record { at = λ t x e. no_value t x e };
    tables = record { at = λ t. get-empty bytes_cmp t ∙ sym (ap table_in_set (get-empty bytes_cmp t)) };
  },
  record {
    files = record { live_size = λ b f e. absent (Live b) f e; archived_size = λ b f e. absent (Archived b) f e };
    tmps = record { at = λ name f w e. absent (Tmp name) f e };
    staged = record { at = λ folder family name f e. e };
  },
)
