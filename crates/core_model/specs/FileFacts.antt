-- What holds of files: their names, and where they stand.
use Rattle.std.specs.Prelude.{◌≡◌, ℕ, ◌≤◌, true, false, List, Option, Some, None}
use Rattle.hb_cell.specs.declared.cell.Cell.{Cell}
use Rattle.hb_layout.specs.declared.base.Base.{Base}
use Rattle.core_model.specs.Site.{is_store_name}
use Rattle.ns_tree.specs.declared.file.FileState.{FileState}
use Rattle.plain_model.specs.declared.region_key.RegionKey.{RegionKey}
use Rattle.plain_model.specs.Names.{Names}
use Rattle.plain_model.specs.declared.parts.PlainTable.{PlainTable}
use Rattle.core_model.specs.declared.entry.Entry.{Entry}
use Rattle.core_model.specs.declared.plan.Plan.{Plan}
use Rattle.core_model.specs.declared.region_files.RegionFiles.{RegionFiles}
use Rattle.core_model.specs.declared.snapshot.Snapshot.{Snapshot}
use Rattle.cell_sight.specs.Member.{Member}
use Rattle.core_model.specs.Disk.{Bases, Backs, HasPlace}
use Rattle.core_model.specs.Entries.{Made, base_of, file_of, is_own, stem, IsKey, IsBase, IsEntryIn}
use Rattle.core_model.specs.Actors.{Counts}
use Rattle.core_model.specs.FileGuards.{next_name}
use Rattle.core_model.specs.Named.{Named}
use Rattle.core_model.specs.State.{Pinned, Written}
use Rattle.core_model.specs.declared.journal.TheConstants.{JOURNAL_LIMIT}

-- ---- names

-- no name that is still to be drawn, in a journal within its limit, has the digits of this one
pub record IsDrawn (epoch files : ℕ) (name : List ℕ) : Type 0 where
  pub not_again : (k : ℕ) → files ≤ k → k ≤ JOURNAL_LIMIT → stem name ≡ next_name epoch k None → ⊥

-- names of files, and of store files whose cells are known, lie below the counter of their opening
pub record NamesAreDrawn (epoch files : ℕ) (tmps : List ℕ → Option FileState) (live archived : Bases) (made : Made) (written : List ℕ → Option Written) : Type 0 where
  pub tmp : (name : List ℕ) (f : FileState) → tmps name ≡ Some f → IsDrawn epoch files name
  pub live_file : (b : Base) (f : FileState) → live b ≡ Some f → is_store_name b.name ≡ true → IsDrawn epoch files b.name
  pub archived_file : (b : Base) (f : FileState) → archived b ≡ Some f → IsDrawn epoch files b.name
  pub known : (b : Base) (cells : List Cell) → made b ≡ Some cells → is_store_name b.name ≡ true → IsDrawn epoch files b.name
  pub recipe : (name : List ℕ) (w : Written) → written name ≡ Some w → IsDrawn epoch files name

-- no base is both live and archived
pub record HasOnePlace (live archived : Bases) : Type 0 where
  pub at : (b : Base) (f g : FileState) → live b ≡ Some f → archived b ≡ Some g → ⊥

-- ---- places

-- every named base has a place
pub record HasPlaces (tables : Names PlainTable) (lists : RegionKey → RegionFiles) (snapshots : Names Snapshot) (captures : ℕ → RegionKey → Option RegionFiles)
    (plans : ℕ → Plan) (pins : ℕ → List Pinned) (live archived : Bases) : Type 0 where
  pub at : (b : Base) → Named tables lists snapshots captures plans pins live b → HasPlace live archived b

-- every named base has its names in their grammars
pub record NamesAreLawful (tables : Names PlainTable) (lists : RegionKey → RegionFiles) (snapshots : Names Snapshot) (captures : ℕ → RegionKey → Option RegionFiles)
    (plans : ℕ → Plan) (pins : ℕ → List Pinned) (live : Bases) : Type 0 where
  pub at : (b : Base) → Named tables lists snapshots captures plans pins live b → IsBase b

-- an entry's own file stands in the region
pub record Stands (live : Bases) (r : RegionKey) (e : Entry) : Type 0 where
  pub file : FileState
  pub at : live (file_of r e) ≡ Some file
  pub key : IsKey r
  pub names : IsEntryIn r e

-- the files of listed and of pinned entries stand in their regions
pub record ListedStand (tables : Names PlainTable) (plans : ℕ → Plan) (lists : RegionKey → RegionFiles) (live : Bases) : Type 0 where
  pub at : (r : RegionKey) (e : Entry) → Counts tables plans r → Member e (lists r).entries → Stands live r e

pub record PinnedStand (pins : ℕ → List Pinned) (live : Bases) : Type 0 where
  pub at : (a : ℕ) (p : Pinned) (e : Entry) → Member p (pins a) → Member e p.entries → Stands live p.region e

-- a file that is waiting to be listed stands
pub record WaitingStand (waiting : Base → Option ℕ) (live : Bases) : Type 0 where
  pub at : (b : Base) (a : ℕ) → waiting b ≡ Some a → (f : FileState) × (live b ≡ Some f) × IsBase b

-- each link and half has its back reference
pub record HasBackRefs (live : Bases) (backs : Backs) : Type 0 where
  pub at : (r : RegionKey) (e : Entry) (f : FileState) → IsKey r → IsEntryIn r e → is_own e ≡ false → live (file_of r e) ≡ Some f → (g : FileState) × (backs (base_of e) r ≡ Some g)
