-- That the files of halves say their rows and their sides.
use Rattle.std.specs.Prelude.{◌≡◌, ℕ, true, List, Option, Some, None}
use Rattle.std.specs.FinMap.{get}
use Rattle.cell_sight.specs.Member.{Member}
use Rattle.hb_layout.specs.declared.base.Base.{Base}
use Rattle.hb_records.specs.declared.region_info.RegionInfo.{RegionInfo}
use Rattle.ns_tree.specs.declared.file.FileState.{FileState}
use Rattle.plain_model.specs.declared.parts.PlainTable.{PlainTable}
use Rattle.plain_model.specs.declared.region_key.RegionKey.{RegionKey}
use Rattle.plain_model.specs.Keys.{key_of}
use Rattle.plain_model.specs.Names.{Names}
use Rattle.core_model.specs.declared.entry.Entry.{Entry}
use Rattle.core_model.specs.declared.entry.Entry.TheVariants.{Own, Link, Half}
use Rattle.core_model.specs.declared.plan.Plan.{Plan}
use Rattle.core_model.specs.declared.region_files.RegionFiles.{RegionFiles}
use Rattle.core_model.specs.declared.snapshot.CopiedRegion.{CopiedRegion}
use Rattle.core_model.specs.declared.snapshot.Snapshot.{Snapshot}
use Rattle.core_model.specs.Actors.{IsRegion}
use Rattle.core_model.specs.Disk.{Bases, live_of}
use Rattle.core_model.specs.Entries.{file_of, is_half, side_of, IsEntryIn}
use Rattle.core_model.specs.Keys.{home}
use Rattle.core_model.specs.State.{Parts, State}
use Rattle.core_bytes.specs.FileOf.{IsPointer}

-- what a half is of: its base, and the region that was split
abbrev pub half_key : Entry → Option (Base × List ℕ)
half_key (Own b) = None
half_key (Link b) = None
half_key (Half b linked parent row top) = Some (b, parent)

-- halves of one base and one parent serve one side of one row
abbrev pub HaveOneSide : (Entry → Type 0) → Type 0
HaveOneSide Among = (x y : Entry) → Among x → Among y → is_half x ≡ true → half_key x ≡ half_key y → side_of x ≡ side_of y

-- the entries are a region's
pub record AreEntries (r : RegionKey) (es : List Entry) : Type 0 where
  pub names : (e : Entry) → Member e es → IsEntryIn r e
  pub side : HaveOneSide (λ e. Member e es)

-- so are those of the lists of regions in newest sets, of captures and of complete snapshots
pub record HaveSides (tables : Names PlainTable) (lists : RegionKey → RegionFiles) (captures : ℕ → RegionKey → Option RegionFiles) (snapshots : Names Snapshot) : Type 0 where
  pub listed : (r : RegionKey) → IsRegion tables r → AreEntries r (lists r).entries
  pub captured : (a : ℕ) (r : RegionKey) (l : RegionFiles) → captures a r ≡ Some l → AreEntries r l.entries
  pub completed : (name : List ℕ) (x : Snapshot) (c : CopiedRegion) → get snapshots name ≡ Some x → Member c x.regions → AreEntries (key_of c.info) c.entries

-- a file in the directory of a region that is being built is that of an entry planned for it, and says its row and side
pub record IsOfPlan (plan : Plan) (r : RegionKey) (b : Base) (bytes : List ℕ) : Type 0 where
  pub entry : Entry
  pub planned : Member (r.region, entry) plan.entries
  pub names : IsEntryIn r entry
  pub file : file_of r entry ≡ b
  pub points : IsPointer entry bytes

pub record BuiltPoint (plans : ℕ → Plan) (live : Bases) : Type 0 where
  pub at : (a : ℕ) (i : RegionInfo) (b : Base) (f : FileState) → Member i (plans a).regions → home b ≡ key_of i → live b ≡ Some f → IsOfPlan (plans a) (key_of i) b f.bytes

-- the file of a listed half says its row and side
pub record ListedPoint (tables : Names PlainTable) (lists : RegionKey → RegionFiles) (live : Bases) : Type 0 where
  pub at : (r : RegionKey) (e : Entry) (f : FileState) → IsRegion tables r → Member e (lists r).entries → live (file_of r e) ≡ Some f → IsPointer e f.bytes

pub record IsPointed (s : Parts) : Type 0 where
  pub sides : HaveSides s.plain.tables s.lists s.captures s.snapshots
  pub built : BuiltPoint s.plans (live_of s.disk)
  pub listed : ListedPoint s.plain.tables s.lists (live_of s.disk)

-- so it is in both states after a failed operation
pub record IsPointedState (s : State) : Type 0 where
  pub now : IsPointed s.now
  pub other : IsPointed s.other
