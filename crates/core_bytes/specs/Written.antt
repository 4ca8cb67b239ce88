-- What files have, where a store tells its tree.
use Rattle.std.specs.Prelude.{◌≡◌, ℕ, true, List, length, Option, Some}
use Rattle.hb_cell.specs.declared.cell.Cell.{Cell}
use Rattle.hb_cell.specs.Order.{same_bytes}
use Rattle.hb_layout.specs.declared.base.Base.{Base}
use Rattle.hfile_form.specs.File.{IsHFile}
use Rattle.ns_tree.specs.declared.file.FileState.{FileState}
use Rattle.core_model.specs.declared.step.Step.{Step}
use Rattle.core_model.specs.declared.step.Step.TheVariants as step
use Rattle.core_model.specs.declared.targets.MoveFrom.TheVariants.{StagedBulk}
use Rattle.core_model.specs.Disk.{Bases, Disk, tmps_of, live_of, archived_of, infos_of, manifests_of, work_infos_of, work_manifests_of, lists_of, sets_of}
use Rattle.core_model.specs.Entries.{Made, file_of, is_half, stem, IsEntryIn}
use Rattle.core_model.specs.Site.{Staged, is_store_name}
use Rattle.core_model.specs.State.{Parts, State, Written}
use Rattle.core_bytes.specs.FileOf.{GivesCells, IsFileOf, IsPointer}
use Rattle.core_bytes.specs.Stored.{HasListFiles, HasSetFiles, TablesAgree}
use Rattle.core_bytes.specs.Recorded.{WritesPart, HasParts, HasManifests}
use Rattle.snapshot_records.specs.declared.reference.Reference.{Reference}
use Rattle.snapshot_records.specs.Reference.{IsReference}
use Rattle.plain_model.specs.declared.region_key.RegionKey.{RegionKey}
use Rattle.core_model.specs.declared.entry.Entry.{Entry}

-- ---- what a step writes

-- the bytes that a step writes are a file of its recipe or of its entry
abbrev pub WritesFile : Step → Type 0
WritesFile (step.WriteTmp actor recipe name cells bytes) = IsFileOf recipe cells bytes
WritesFile (step.Half actor entry region bytes) = IsPointer entry bytes
WritesFile _ = Unit {0}

-- and a staged file that it moves whole is an HFile of what was found in it
abbrev pub MovesFile : Step → Disk → Type 0
MovesFile (step.Place actor (StagedBulk folder name) base cells) disk = (f : FileState) → disk (Staged folder base.family name) ≡ Some f → IsHFile f.bytes cells
MovesFile _ disk = Unit {0}

-- a step writes and moves files of what it says
pub record Writes (p : Step) (s : Parts) : Type 0 where
  pub file : WritesFile p
  pub moved : MovesFile p s.disk
  pub part : WritesPart p s

-- ---- what files have

-- the bytes are an HFile of the cells that are known
pub record IsMade (known : Option (List Cell)) (bytes : List ℕ) : Type 0 where
  pub cells : List Cell
  pub are : known ≡ Some cells
  pub file : IsHFile bytes cells

-- the file at a base's place is an HFile of what the base has
pub record HasFiles (live archived : Bases) (made : Made) : Type 0 where
  pub live_made : (b : Base) (f : FileState) → live b ≡ Some f → is_store_name b.name ≡ true → IsMade (made b) f.bytes
  pub archived_made : (b : Base) (f : FileState) → archived b ≡ Some f → IsMade (made b) f.bytes

-- a temporary file is a file of its recipe
pub record HasTmps (tmps : List ℕ → Option FileState) (written : List ℕ → Option Written) : Type 0 where
  pub at : (name : List ℕ) (f : FileState) (w : Written) → tmps name ≡ Some f → written name ≡ Some w → IsFileOf w.recipe w.cells f.bytes

-- a base with the digits of a written name has that file's cells
pub record IsTied (written : List ℕ → Option Written) (made : Made) : Type 0 where
  pub at : (name : List ℕ) (w : Written) → written name ≡ Some w → GivesCells w.recipe → (b : Base) → same_bytes (stem b.name) name ≡ true → made b ≡ Some w.cells

-- the file of a half is a reference
pub record HasReferences (live : Bases) : Type 0 where
  pub at : (r : RegionKey) (e : Entry) (f : FileState) → IsEntryIn r e → is_half e ≡ true → live (file_of r e) ≡ Some f → (x : Reference) × IsReference f.bytes x

pub record IsWritten (s : Parts) : Type 0 where
  pub files : HasFiles (live_of s.disk) (archived_of s.disk) s.made
  pub tmps : HasTmps (tmps_of s.disk) s.written
  pub tied : IsTied s.written s.made
  pub references : HasReferences (live_of s.disk)
  pub parts : HasParts (work_infos_of s.disk) (work_manifests_of s.disk) s.parted s.captures s.plain
  pub manifests : HasManifests (infos_of s.disk) (manifests_of s.disk) s.snapshots
  pub lists : HasListFiles (lists_of s.disk) s.lists s.plain.tables s.plans
  pub sets : HasSetFiles (sets_of s.disk) s.sets
  pub tables : TablesAgree s.sets s.plain.tables

pub record IsWrittenState (s : State) : Type 0 where
  pub now : IsWritten s.now
  pub other : IsWritten s.other

-- ---- sizes, told or not

-- a store file at a base's place has the size that is known
pub record HasSizes (live archived : Bases) (sizes : Base → Option ℕ) : Type 0 where
  pub live_size : (b : Base) (f : FileState) → live b ≡ Some f → is_store_name b.name ≡ true → sizes b ≡ Some (length f.bytes)
  pub archived_size : (b : Base) (f : FileState) → archived b ≡ Some f → sizes b ≡ Some (length f.bytes)

-- a base with the digits of a temporary file has its size
pub record HasTmpSizes (tmps : List ℕ → Option FileState) (written : List ℕ → Option Written) (sizes : Base → Option ℕ) : Type 0 where
  pub at : (name : List ℕ) (f : FileState) (w : Written) → tmps name ≡ Some f → written name ≡ Some w → (b : Base) → stem b.name ≡ name → sizes b ≡ Some (length f.bytes)

-- a staged file that still stands is as it was at the opening
pub record HasStaged (disk opened : Disk) : Type 0 where
  pub at : (folder family name : List ℕ) (f : FileState) → disk (Staged folder family name) ≡ Some f → opened (Staged folder family name) ≡ Some f

pub record IsSized (s : Parts) : Type 0 where
  pub files : HasSizes (live_of s.disk) (archived_of s.disk) s.sizes
  pub tmps : HasTmpSizes (tmps_of s.disk) s.written s.sizes
  pub staged : HasStaged s.disk s.opened
