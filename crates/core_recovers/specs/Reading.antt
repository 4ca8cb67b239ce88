-- What the files of a store say: its newest sets and lists, its snapshots, and the cells of its files.
use Rattle.std.specs.Prelude.{◌≡◌, ◌⊎◌, ℕ, Bool, false, true, List, Option, Some, None}
use Rattle.cell_sight.specs.Member.{Member}
use Rattle.hb_layout.specs.declared.base.Base.{Base}
use Rattle.hb_records.specs.declared.region_info.RegionInfo.{RegionInfo}
use Rattle.ns_tree.specs.declared.file.FileState.{FileState}
use Rattle.plain_model.specs.declared.parts.PlainTable.{PlainTable}
use Rattle.plain_model.specs.declared.region_key.RegionKey.{RegionKey}
use Rattle.plain_model.specs.Keys.{key_of}
use Rattle.region_set.specs.declared.region_set.RegionSet.{RegionSet}
use Rattle.core_model.specs.declared.entry.Entry.{Entry}
use Rattle.core_model.specs.declared.region_files.RegionFiles.{RegionFiles}
use Rattle.core_model.specs.declared.snapshot.CopiedRegion.{CopiedRegion}
use Rattle.core_model.specs.declared.snapshot.Snapshot.{Snapshot}
use Rattle.core_model.specs.Disk.{Disk, HasPlace, live_of, archived_of, lists_of, sets_of, infos_of, manifests_of}
use Rattle.core_model.specs.Entries.{Made, base_of, file_of, IsBase, IsEntryIn}
use Rattle.core_model.specs.FileChanges.{set_number}
use Rattle.core_model.specs.FileFacts.{Stands}
use Rattle.core_model.specs.PassChanges.{snapshot_entries}
use Rattle.core_trees.specs.Filed.{IsAbove}
use Rattle.core_bytes.specs.FileOf.{IsPointer, IsSetFileOf}
use Rattle.core_bytes.specs.Recorded.{IsInfoOf, IsManifestOf}
use Rattle.core_bytes.specs.Stored.{IsStored, table_in_set}
use Rattle.core_bytes.specs.Written.{HasFiles}

-- the newest set of each table, the newest list of each region, the complete snapshots, and the cells of each base
pub record Reading : Type 0 where
  pub sets : List ℕ → Option RegionSet
  pub lists : RegionKey → RegionFiles
  pub snapshots : List ℕ → Option Snapshot
  pub made : Made

-- the region is in the newest set of its table, open or split
pub record IsIn (sets : List ℕ → Option RegionSet) (r : RegionKey) (split : Bool) : Type 0 where
  pub table : PlainTable
  pub stands : table_in_set (sets r.table) ≡ Some table
  pub info : RegionInfo
  pub listed : Member (info, split) table.regions
  pub key : key_of info ≡ r

abbrev pub InReading : Reading → RegionKey → Type 0
InReading x r = IsIn x.sets r false ⊎ IsIn x.sets r true

-- the newest set of a table, whose file is the set's
pub record ReadsSet (files : ℕ → Option FileState) (table : List ℕ) (o : Option RegionSet) : Type 0 where
  pub above : IsAbove files (set_number o)
  pub file : (s : RegionSet) → o ≡ Some s → (f : FileState) × (files s.number ≡ Some f) × IsSetFileOf table f.bytes s

-- the newest list of a region, whose file is the list's
pub record ReadsList (files : ℕ → Option FileState) (l : RegionFiles) : Type 0 where
  pub above : IsAbove files l.number
  pub file : IsStored files l

-- the files of a complete snapshot, which say what it holds; the entries of each of its regions are the region's
pub record ReadsSnapshot (infos manifests : Option FileState) (name : List ℕ) (x : Snapshot) : Type 0 where
  pub info : FileState
  pub info_stands : infos ≡ Some info
  pub manifest : FileState
  pub manifest_stands : manifests ≡ Some manifest
  pub description : IsInfoOf info.bytes name x.schema.table
  pub holds : IsManifestOf manifest.bytes x
  pub names : (c : CopiedRegion) (e : Entry) → Member c x.regions → Member e c.entries → IsEntryIn (key_of c.info) e

-- a list or a snapshot has an entry of the base
pub data IsRead (x : Reading) (b : Base) : Type 0 where
  by_list : (r : RegionKey) (e : Entry) → InReading x r → Member e (x.lists r).entries → base_of e ≡ b → IsRead x b
  by_snapshot : (name : List ℕ) (s : Snapshot) (e : Entry) → x.snapshots name ≡ Some s → Member e (snapshot_entries s) → base_of e ≡ b → IsRead x b

-- what the files of a disk say
pub record IsReading (d : Disk) (x : Reading) : Type 0 where
  pub sets : (table : List ℕ) → ReadsSet (sets_of d table) table (x.sets table)
  pub lists : (r : RegionKey) → InReading x r → ReadsList (lists_of d r) (x.lists r)
  -- both files of a snapshot stand, and neither of any other name
  pub missing : (name : List ℕ) → x.snapshots name ≡ None → (infos_of d name ≡ None) × (manifests_of d name ≡ None)
  pub snapshots : (name : List ℕ) (s : Snapshot) → x.snapshots name ≡ Some s → ReadsSnapshot (infos_of d name) (manifests_of d name) name s
  -- the file of a listed entry stands in the region, and that of a half says its row and side
  pub stand : (r : RegionKey) (e : Entry) → InReading x r → Member e (x.lists r).entries → Stands (live_of d) r e
  pub point : (r : RegionKey) (e : Entry) (f : FileState) → InReading x r → Member e (x.lists r).entries → live_of d (file_of r e) ≡ Some f → IsPointer e f.bytes
  -- each base that is read has a place, and its cells are those of the HFile there
  pub places : (b : Base) → IsRead x b → HasPlace (live_of d) (archived_of d) b
  pub bases : (b : Base) → IsRead x b → IsBase b
  pub files : HasFiles (live_of d) (archived_of d) x.made
