-- What is wrong at a place of a tree, and which of it comes first. A fault that other files have a part in has what these say,
-- so it is judged where they are in their grammars alone.
use Rattle.std.specs.Prelude.{◌≡◌, ◌≢◌, ℕ, ◌<◌, Bool, true, false, List, [], Option, Some, None}
use Rattle.std.specs.FinMap.{contains_key}
use Rattle.cell_sight.specs.Member.{Member}
use Rattle.commit_list.specs.declared.region_list.RegionList.{RegionList}
use Rattle.hb_cell.specs.declared.cell.Cell.{Cell}
use Rattle.hb_layout.specs.declared.base.Base.{Base}
use Rattle.hfile_form.specs.File.{IsHFile}
use Rattle.ns_tree.specs.declared.file.FileState.{FileState}
use Rattle.ns_tree.specs.Tree.{Tree}
use Rattle.plain_model.specs.declared.region_key.RegionKey.{RegionKey}
use Rattle.region_set.specs.declared.region_set.RegionSet.{RegionSet}
use Rattle.snapshot_records.specs.declared.manifest.Manifest.{Manifest}
use Rattle.snapshot_records.specs.declared.reference.Reference.{Reference}
use Rattle.snapshot_records.specs.declared.snapshot_info.SnapshotInfo.{SnapshotInfo}
use Rattle.snapshot_records.specs.Manifest.{IsManifest}
use Rattle.snapshot_records.specs.Reference.{IsReference}
use Rattle.snapshot_records.specs.SnapshotInfo.{IsSnapshotInfo}
use Rattle.core_model.specs.declared.entry.Entry.{Entry}
use Rattle.core_model.specs.declared.entry.Entry.TheVariants.{Link}
use Rattle.core_model.specs.declared.region_files.RegionFiles.{RegionFiles}
use Rattle.core_model.specs.declared.snapshot.Snapshot.{Snapshot}
use Rattle.core_model.specs.Disk.{Bases, Disk, HasPlace, disk_of, live_of, archived_of, backs_of, lists_of, sets_of, infos_of, manifests_of}
use Rattle.core_model.specs.Entries.{Made, base_of, file_of, is_half, is_own, IsKey, IsEntryIn}
use Rattle.core_model.specs.FileFacts.{Stands}
use Rattle.core_model.specs.PassChanges.{snapshot_entries}
use Rattle.core_model.specs.Site.{Site, is_store_name, site_text}
use Rattle.core_model.specs.Site as site
use Rattle.core_trees.specs.Filed.{IsAbove}
use Rattle.core_bytes.specs.FileOf.{IsListFileOf, IsPointer, IsSetFileOf}
use Rattle.core_bytes.specs.Recorded.{IsInfoOf, IsManifestOf}
use Rattle.core_bytes.specs.Written.{IsMade}
use Rattle.core_recovers.specs.Reading.{IsIn, ReadsList, ReadsSet, ReadsSnapshot}
use Rattle.core_opens.specs.Fits.{FitsEntries, FitsSet, FitsSnapshot}
use Rattle.core_opens.specs.Valid.{HasRow}

pub data Fault : Type 0 where
  -- no row of the layout, or bytes where none may be
  Layout : Fault
  -- a base that is live and archived
  Doubled : Fault
  -- a file of a snapshot without the other
  NoOther : Fault
  -- bytes that are not in the grammar of their kind
  Malformed : Fault
  -- a file that is named and does not stand
  NoFile : Fault
  NoBackRef : Fault
  -- parts that do not fit together
  Unfit : Fault

-- their order at one place
abbrev pub rank : Fault → ℕ
rank Layout = 0
rank Doubled = 1
rank NoOther = 2
rank Malformed = 3
rank NoFile = 4
rank NoBackRef = 5
rank Unfit = 6

-- ---- what stands, and what is read

-- a file that stands at this place
pub record StandsAt (tree : Tree) (place : List ℕ) (q : Site) (f : FileState) : Type 0 where
  pub text : site_text q ≡ place
  pub at : disk_of tree q ≡ Some f

-- the file of the greatest number
pub record IsNewestFile (files : ℕ → Option FileState) (n : ℕ) (f : FileState) : Type 0 where
  pub stands : files n ≡ Some f
  pub above : IsAbove files n

-- the newest set of a region's table has it
pub record InNewest (d : Disk) (r : RegionKey) : Type 0 where
  pub set : RegionSet
  pub read : ReadsSet (sets_of d r.table) r.table (Some set)
  pub split : Bool
  pub region : IsIn (λ table. Some set) r split

-- the files of a list's entries stand, and their bases
pub record EntriesStand (d : Disk) (r : RegionKey) (l : RegionFiles) : Type 0 where
  pub stand : (e : Entry) → Member e l.entries → Stands (live_of d) r e
  pub places : (e : Entry) → Member e l.entries → HasPlace (live_of d) (archived_of d) (base_of e)

-- the files of its halves say their rows and sides
abbrev pub EntriesPoint : Disk → RegionKey → RegionFiles → Type 0
EntriesPoint d r l = (e : Entry) (f : FileState) → Member e l.entries → live_of d (file_of r e) ≡ Some f → IsPointer e f.bytes

-- a region's newest list with all its files
pub record ReadsEntries (d : Disk) (r : RegionKey) (l : RegionFiles) : Type 0 where
  pub list : ReadsList (lists_of d r) l
  pub stand : EntriesStand d r l
  pub point : EntriesPoint d r l

-- the cells of a base are those of the HFile at its place
pub data HasMade (live archived : Bases) (made : Made) (b : Base) : Type 0 where
  is_live : (f : FileState) → live b ≡ Some f → IsMade (made b) f.bytes → HasMade live archived made b
  is_archived : (f : FileState) → archived b ≡ Some f → IsMade (made b) f.bytes → HasMade live archived made b

abbrev pub ReadsCells : Disk → Made → List Entry → Type 0
ReadsCells d made es = (e : Entry) → Member e es → HasMade (live_of d) (archived_of d) made (base_of e)

-- the bases of a snapshot's entries stand
abbrev pub BasesStand : Disk → Snapshot → Type 0
BasesStand d x = (e : Entry) → Member e (snapshot_entries x) → HasPlace (live_of d) (archived_of d) (base_of e)

-- ---- faults

pub data LayoutFault (tree : Tree) (place : List ℕ) : Type 0 where
  no_row : contains_key tree place ≡ true → (HasRow place → ⊥) → LayoutFault tree place
  full_epoch : (n : ℕ) (f : FileState) → StandsAt tree place (site.Epoch n) f → f.bytes ≢ [] → LayoutFault tree place
  full_link : (r : RegionKey) (b : Base) (f : FileState) → IsEntryIn r (Link b) → StandsAt tree place (site.Live (file_of r (Link b))) f → f.bytes ≢ [] → LayoutFault tree place
  full_back : (b : Base) (text : List ℕ) (f : FileState) → StandsAt tree place (site.BackRefTo b text) f → f.bytes ≢ [] → LayoutFault tree place

pub data DoubledFault (tree : Tree) (place : List ℕ) : Type 0 where
  doubled : (b : Base) (f g : FileState) → StandsAt tree place (site.Archived b) f → live_of (disk_of tree) b ≡ Some g → DoubledFault tree place

pub data OtherFault (tree : Tree) (place : List ℕ) : Type 0 where
  no_manifest : (name : List ℕ) (f : FileState) → StandsAt tree place (site.Info name) f → manifests_of (disk_of tree) name ≡ None → OtherFault tree place
  no_info : (name : List ℕ) (f : FileState) → StandsAt tree place (site.Manifest name) f → infos_of (disk_of tree) name ≡ None → OtherFault tree place

pub data MalformedFault (tree : Tree) (place : List ℕ) : Type 0 where
  half : (r : RegionKey) (e : Entry) (f : FileState) → IsEntryIn r e → is_half e ≡ true → StandsAt tree place (site.Live (file_of r e)) f → ((x : Reference) → IsReference f.bytes x → ⊥) → MalformedFault tree place
  live_file : (b : Base) (f : FileState) → StandsAt tree place (site.Live b) f → is_store_name b.name ≡ true → ((cells : List Cell) → IsHFile f.bytes cells → ⊥) → MalformedFault tree place
  archived_file : (b : Base) (f : FileState) → StandsAt tree place (site.Archived b) f → ((cells : List Cell) → IsHFile f.bytes cells → ⊥) → MalformedFault tree place
  list : (r : RegionKey) (n : ℕ) (f : FileState) → InNewest (disk_of tree) r → 0 < n → IsNewestFile (lists_of (disk_of tree) r) n f → site_text (site.StoreList r.table r.region n) ≡ place
      → ((l : RegionList) → IsListFileOf f.bytes l → l.number ≡ n → ⊥) → MalformedFault tree place
  set : (table : List ℕ) (n : ℕ) (f : FileState) → 0 < n → IsNewestFile (sets_of (disk_of tree) table) n f → site_text (site.RegionSet table n) ≡ place → ((s : RegionSet) → IsSetFileOf table f.bytes s → s.number ≡ n → ⊥) → MalformedFault tree place
  manifest : (name : List ℕ) (f : FileState) → StandsAt tree place (site.Manifest name) f → ((x : Manifest) → IsManifest f.bytes x → ⊥) → MalformedFault tree place
  info : (name : List ℕ) (f : FileState) → StandsAt tree place (site.Info name) f → ((x : SnapshotInfo) → IsSnapshotInfo f.bytes x → ⊥) → MalformedFault tree place

-- a list that is read has an entry of which the base or the file does not stand; a manifest, a link or a half has such a base
pub data FileFault (tree : Tree) (place : List ℕ) : Type 0 where
  of_list : (r : RegionKey) (l : RegionFiles) → InNewest (disk_of tree) r → ReadsList (lists_of (disk_of tree) r) l → site_text (site.StoreList r.table r.region l.number) ≡ place
      → ((k : RegionFiles) → ReadsList (lists_of (disk_of tree) r) k → EntriesStand (disk_of tree) r k → ⊥) → FileFault tree place
  of_manifest : (name : List ℕ) (x : Snapshot) → ReadsSnapshot (infos_of (disk_of tree) name) (manifests_of (disk_of tree) name) name x → site_text (site.Manifest name) ≡ place
      → ((y : Snapshot) → ReadsSnapshot (infos_of (disk_of tree) name) (manifests_of (disk_of tree) name) name y → BasesStand (disk_of tree) y → ⊥) → FileFault tree place
  of_file : (r : RegionKey) (e : Entry) (f : FileState) → IsKey r → IsEntryIn r e → is_own e ≡ false → StandsAt tree place (site.Live (file_of r e)) f
      → (HasPlace (live_of (disk_of tree)) (archived_of (disk_of tree)) (base_of e) → ⊥) → FileFault tree place

pub data BackFault (tree : Tree) (place : List ℕ) : Type 0 where
  no_back : (r : RegionKey) (e : Entry) (f : FileState) → IsKey r → IsEntryIn r e → is_own e ≡ false → StandsAt tree place (site.Live (file_of r e)) f → backs_of (disk_of tree) (base_of e) r ≡ None → BackFault tree place

-- what can be read of a set, of a list, of both files of a snapshot does not fit, however it is read
pub data UnfitFault (tree : Tree) (place : List ℕ) : Type 0 where
  unfit_set : (table : List ℕ) (s : RegionSet) → ReadsSet (sets_of (disk_of tree) table) table (Some s) → site_text (site.RegionSet table s.number) ≡ place → (FitsSet s.state s → ⊥) → UnfitFault tree place
  unfit_list : (r : RegionKey) (i : InNewest (disk_of tree) r) (l : RegionFiles) (made : Made) → ReadsEntries (disk_of tree) r l → ReadsCells (disk_of tree) made l.entries → site_text (site.StoreList r.table r.region l.number) ≡ place
      → ((k : RegionFiles) (more : Made) → ReadsEntries (disk_of tree) r k → ReadsCells (disk_of tree) more k.entries → FitsEntries more i.region.info i.region.table.schema.families k.seq k.entries → ⊥) → UnfitFault tree place
  unfit_manifest : (name : List ℕ) (x : Snapshot) (made : Made) → ReadsSnapshot (infos_of (disk_of tree) name) (manifests_of (disk_of tree) name) name x → ReadsCells (disk_of tree) made (snapshot_entries x) → site_text (site.Manifest name) ≡ place
      → ((y : Snapshot) (more : Made) → ReadsSnapshot (infos_of (disk_of tree) name) (manifests_of (disk_of tree) name) name y → ReadsCells (disk_of tree) more (snapshot_entries y) → FitsSnapshot more y → ⊥) → UnfitFault tree place
  -- the description of another snapshot or table
  unfit_info : (name : List ℕ) (x : SnapshotInfo) (m : Manifest) (f g : FileState) → infos_of (disk_of tree) name ≡ Some f → StandsAt tree place (site.Manifest name) g → IsSnapshotInfo f.bytes x → IsManifest g.bytes m
      → ((y : Snapshot) → IsManifestOf g.bytes y → IsInfoOf f.bytes name y.schema.table → ⊥) → UnfitFault tree place

abbrev pub FaultAt : Fault → Tree → List ℕ → Type 0
FaultAt Layout tree place = LayoutFault tree place
FaultAt Doubled tree place = DoubledFault tree place
FaultAt NoOther tree place = OtherFault tree place
FaultAt Malformed tree place = MalformedFault tree place
FaultAt NoFile tree place = FileFault tree place
FaultAt NoBackRef tree place = BackFault tree place
FaultAt Unfit tree place = UnfitFault tree place

-- the first fault of a place
pub record IsFirstFault (tree : Tree) (place : List ℕ) (fault : Fault) : Type 0 where
  pub there : FaultAt fault tree place
  pub first : (other : Fault) → rank other < rank fault → FaultAt other tree place → ⊥
