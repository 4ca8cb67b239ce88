-- That the entries of regions may stand beside each other, and what this needs of files that wait to be listed.
use Rattle.std.specs.Prelude.{◌≡◌, ℕ, ◌≤◌, List, take, Option, Some}
use Rattle.std.specs.FinMap.{get}
use Rattle.cell_sight.specs.Member.{Member}
use Rattle.hb_layout.specs.declared.base.Base.{Base}
use Rattle.ns_tree.specs.declared.file.FileState.{FileState}
use Rattle.ns_tree.specs.Tree.{Tree}
use Rattle.plain_model.specs.declared.parts.PlainTable.{PlainTable}
use Rattle.plain_model.specs.declared.region_key.RegionKey.{RegionKey}
use Rattle.plain_model.specs.Names.{Names}
use Rattle.core_model.specs.declared.entry.Entry.{Entry}
use Rattle.core_model.specs.declared.journal.JournalEntry.{JournalEntry}
use Rattle.core_model.specs.declared.opening.Opening.{Opening}
use Rattle.core_model.specs.declared.region_files.RegionFiles.{RegionFiles}
use Rattle.core_model.specs.declared.snapshot.CopiedRegion.{CopiedRegion}
use Rattle.core_model.specs.declared.snapshot.Snapshot.{Snapshot}
use Rattle.core_model.specs.declared.step.Step.{Step}
use Rattle.core_model.specs.Actors.{IsRegion}
use Rattle.core_model.specs.Allows.{Allows, AllowsAll}
use Rattle.core_model.specs.Disk.{tmps_of}
use Rattle.core_model.specs.Entries.{base_of, stem}
use Rattle.core_model.specs.FileFacts.{IsDrawn}
use Rattle.core_model.specs.PassChanges.{snapshot_entries}
use Rattle.core_model.specs.Replay.{after, replay}
use Rattle.core_model.specs.Sound.{IsSound}
use Rattle.core_model.specs.StartGuards.{Ascends}
use Rattle.core_model.specs.State.{Parts, State, Placed}
use Rattle.core_contents.specs.Faithful.{IsFaithful}
use Rattle.core_opens.specs.Begins.{CanBegin}
use Rattle.core_opens.specs.Fits.{EachTwo, MayStandBeside}

-- a list of a region in a newest set, a completed snapshot or a capture has an entry of the base
pub data IsUsed (tables : Names PlainTable) (lists : RegionKey → RegionFiles) (snapshots : Names Snapshot) (captures : ℕ → RegionKey → Option RegionFiles) (b : Base) : Type 0 where
  listed : (r : RegionKey) (e : Entry) → IsRegion tables r → Member e (lists r).entries → base_of e ≡ b → IsUsed tables lists snapshots captures b
  copied : (name : List ℕ) (x : Snapshot) (e : Entry) → get snapshots name ≡ Some x → Member e (snapshot_entries x) → base_of e ≡ b → IsUsed tables lists snapshots captures b
  captured : (a : ℕ) (r : RegionKey) (l : RegionFiles) (e : Entry) → captures a r ≡ Some l → Member e l.entries → base_of e ≡ b → IsUsed tables lists snapshots captures b

abbrev pub Uses : Parts → Base → Type 0
Uses s b = IsUsed s.plain.tables s.lists s.snapshots s.captures b

-- no entry has a base that waits to be listed
pub record AreUnused (waiting : Base → Option ℕ) (tables : Names PlainTable) (lists : RegionKey → RegionFiles) (snapshots : Names Snapshot) (captures : ℕ → RegionKey → Option RegionFiles) : Type 0 where
  pub at : (b : Base) (a : ℕ) → waiting b ≡ Some a → IsUsed tables lists snapshots captures b → ⊥

-- the entries of each list of a region in a newest set, of each region of a snapshot and of each capture may stand beside each other
pub record StandBeside (tables : Names PlainTable) (lists : RegionKey → RegionFiles) (snapshots : Names Snapshot) (captures : ℕ → RegionKey → Option RegionFiles) : Type 0 where
  pub listed : (r : RegionKey) → IsRegion tables r → EachTwo MayStandBeside (lists r).entries
  pub copied : (name : List ℕ) (x : Snapshot) (r : CopiedRegion) → get snapshots name ≡ Some x → Member r x.regions → EachTwo MayStandBeside r.entries
  pub captured : (a : ℕ) (r : RegionKey) (l : RegionFiles) → captures a r ≡ Some l → EachTwo MayStandBeside l.entries

-- the staged files of a load are in order, so they differ
pub record LoadsAscend (loads : ℕ → List (List ℕ × List ℕ)) : Type 0 where
  pub at : (a : ℕ) → Ascends (loads a)

-- the name of a base that an actor placed was drawn, its file is no temporary one any more, and it placed it once
pub record ArePlacedOnce (epoch files : ℕ) (tmps : List ℕ → Option FileState) (placed : ℕ → List Placed) : Type 0 where
  pub drawn : (a : ℕ) (p : Placed) → Member p (placed a) → IsDrawn epoch files p.base.name
  pub gone : (a : ℕ) (p : Placed) (f : FileState) → Member p (placed a) → tmps (stem p.base.name) ≡ Some f → ⊥
  pub once : (a : ℕ) (p q : Placed) → Member p (placed a) → Member q (placed a) → p.base ≡ q.base → p.from ≡ q.from

pub record IsBeside (s : Parts) : Type 0 where
  pub unused : AreUnused s.waiting s.plain.tables s.lists s.snapshots s.captures
  pub beside : StandBeside s.plain.tables s.lists s.snapshots s.captures
  pub loads : LoadsAscend s.loads
  pub placed : ArePlacedOnce s.epoch s.files (tmps_of s.disk) s.placed

-- so it is in both states after a failed operation
pub record IsBesideState (s : State) : Type 0 where
  pub now : IsBeside s.now
  pub other : IsBeside s.other

-- ---- laws

abbrev pub KeepsBeside : Step → Parts → Type 0
KeepsBeside p s = s.files ≤ 4_194_304 → Allows p s → IsSound s → IsFaithful s → IsBeside s → IsBeside (after p s)

-- each front of a journal of allowed entries, whose opening read a valid tree, leads to states of such entries
abbrev pub LeadsToBeside : Opening → Tree → List JournalEntry → ℕ → Type 0
LeadsToBeside o tree es k = CanBegin o tree → AllowsAll o es → IsBesideState (replay o (take k es))
