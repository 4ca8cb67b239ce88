-- What names a base.
use Rattle.std.specs.Prelude.{◌≡◌, ℕ, false, List, Option, Some}
use Rattle.std.specs.FinMap.{get}
use Rattle.hb_layout.specs.declared.base.Base.{Base}
use Rattle.ns_tree.specs.declared.file.FileState.{FileState}
use Rattle.plain_model.specs.declared.region_key.RegionKey.{RegionKey}
use Rattle.plain_model.specs.Names.{Names}
use Rattle.plain_model.specs.declared.parts.PlainTable.{PlainTable}
use Rattle.core_model.specs.declared.entry.Entry.{Entry}
use Rattle.core_model.specs.declared.plan.Plan.{Plan}
use Rattle.core_model.specs.declared.region_files.RegionFiles.{RegionFiles}
use Rattle.core_model.specs.declared.snapshot.Snapshot.{Snapshot}
use Rattle.cell_sight.specs.Member.{Member}
use Rattle.core_model.specs.Disk.{Bases, live_of}
use Rattle.core_model.specs.Entries.{base_of, file_of, is_own, IsKey, IsEntryIn}
use Rattle.core_model.specs.Actors.{IsRegion, HasPinned}
use Rattle.core_model.specs.PassChanges.{snapshot_entries}
use Rattle.core_model.specs.State.{Parts, Pinned}

-- an entry of the base in: the newest list of a region in a newest set; a completed snapshot; what a snapshot's actor has
-- captured; a plan; a pin; or a link or half file that stands
pub data Named (tables : Names PlainTable) (lists : RegionKey → RegionFiles) (snapshots : Names Snapshot) (captures : ℕ → RegionKey → Option RegionFiles)
    (plans : ℕ → Plan) (pins : ℕ → List Pinned) (live : Bases) (b : Base) : Type 0 where
  listed : (r : RegionKey) (e : Entry) → IsRegion tables r → Member e (lists r).entries → base_of e ≡ b → Named tables lists snapshots captures plans pins live b
  in_snapshot : (name : List ℕ) (x : Snapshot) (e : Entry) → get snapshots name ≡ Some x → Member e (snapshot_entries x) → base_of e ≡ b
      → Named tables lists snapshots captures plans pins live b
  captured : (a : ℕ) (r : RegionKey) (l : RegionFiles) (e : Entry) → captures a r ≡ Some l → Member e l.entries → base_of e ≡ b
      → Named tables lists snapshots captures plans pins live b
  planned : (a : ℕ) (x : List ℕ × Entry) → Member x (plans a).entries → base_of x.1 ≡ b → Named tables lists snapshots captures plans pins live b
  pinned : (a : ℕ) (e : Entry) → HasPinned pins a e → base_of e ≡ b → Named tables lists snapshots captures plans pins live b
  linked : (r : RegionKey) (e : Entry) (f : FileState) → IsKey r → IsEntryIn r e → is_own e ≡ false → live (file_of r e) ≡ Some f → base_of e ≡ b
      → Named tables lists snapshots captures plans pins live b

abbrev pub IsNamed : Parts → Base → Type 0
IsNamed s b = Named s.plain.tables s.lists s.snapshots s.captures s.plans s.pins (live_of s.disk) b
