-- What the files of regions and snapshots hold, beside the plain state.
use Rattle.std.specs.Prelude.{◌≡◌, ℕ, ◌≤◌, ◌++◌, true, List, take, length, Option, Some, None, unwrap_or}
use Rattle.std.specs.List.{AllZip}
use Rattle.std.specs.FinMap.{get}
use Rattle.hb_cell.specs.declared.cell.Cell.{Cell}
use Rattle.plain_model.specs.declared.hold.Hold.TheVariants as holds
use Rattle.plain_model.specs.declared.region_key.RegionKey.{RegionKey}
use Rattle.plain_model.specs.declared.parts.PlainSnapshot.{PlainSnapshot}
use Rattle.plain_model.specs.declared.parts.PlainTable.{PlainTable}
use Rattle.plain_model.specs.declared.parts.RegionCopy.{RegionCopy}
use Rattle.plain_model.specs.Keys.{key_of}
use Rattle.plain_model.specs.LiveEvents.{job_of}
use Rattle.plain_model.specs.Names.{Names}
use Rattle.plain_model.specs.Plain.{Plain}
use Rattle.cell_sight.specs.Member.{Member}
use Rattle.cell_sight.specs.Same.{Same}
use Rattle.core_model.specs.declared.entry.Entry.{Entry}
use Rattle.core_model.specs.declared.plan.Plan.{Plan}
use Rattle.core_model.specs.declared.region_files.RegionFiles.{RegionFiles}
use Rattle.core_model.specs.declared.snapshot.CopiedRegion.{CopiedRegion}
use Rattle.core_model.specs.declared.snapshot.Snapshot.{Snapshot}
use Rattle.core_model.specs.Actors.{HasHold, IsRegion, last_pin}
use Rattle.core_model.specs.Entries.{Made, base_of, cells_of, cells_in}
use Rattle.core_model.specs.PassChanges.{snapshot_entries}
use Rattle.core_model.specs.StartGuards.{is_major}
use Rattle.core_model.specs.State.{Pinned}

-- the entries of each region in a newest set have its cells
pub record HasContents (made : Made) (lists : RegionKey → RegionFiles) (tables : Names PlainTable) (stable : RegionKey → List Cell) : Type 0 where
  pub at : (r : RegionKey) → IsRegion tables r → Same (cells_in made (lists r).entries) (stable r)

-- its list has its number
pub record HasKept (lists : RegionKey → RegionFiles) (tables : Names PlainTable) (kept : RegionKey → ℕ) : Type 0 where
  pub at : (r : RegionKey) → IsRegion tables r → (lists r).seq ≡ kept r

-- a copied region has the key, the cells and the number of its plain copy
pub record IsCopy (made : Made) (r : CopiedRegion) (c : RegionCopy) : Type 0 where
  pub region : key_of r.info ≡ key_of c.region
  pub same : Same (cells_in made r.entries) c.cells
  pub number : r.seq ≡ c.number

abbrev pub Copies : Made → Option Snapshot → Option PlainSnapshot → Type 0
Copies made None None = Unit {0}
Copies made (Some x) (Some y) = (x.schema.families ≡ y.schema.families) × AllZip (IsCopy made) x.regions y.regions
Copies made _ _ = ⊥

-- a completed snapshot has, region by region, the cells of the plain one
pub record SnapshotsAgree (made : Made) (snapshots : Names Snapshot) (copies : Names PlainSnapshot) : Type 0 where
  pub at : (name : List ℕ) → Copies made (get snapshots name) (get copies name)

-- a capture of a region has the cells and the number of its plain capture
pub record HasCapture (made : Made) (r : RegionKey) (l : RegionFiles) (c : RegionCopy) : Type 0 where
  pub region : key_of c.region ≡ r
  pub same : Same (cells_in made l.entries) c.cells
  pub number : l.seq ≡ c.number

abbrev pub IsCaptureOf : Made → RegionKey → Option RegionFiles → Option RegionCopy → Type 0
IsCaptureOf made r None None = Unit {0}
IsCaptureOf made r (Some l) (Some c) = HasCapture made r l c
IsCaptureOf made r _ _ = ⊥

pub record CapturesAgree (made : Made) (captures : ℕ → RegionKey → Option RegionFiles) (copies : ℕ → RegionKey → Option RegionCopy) : Type 0 where
  pub at : (a : ℕ) (r : RegionKey) → IsCaptureOf made r (captures a r) (copies a r)

-- what the last major pin of a region gave stands in front of the list, with the cells that stood there
pub record HasFront (made : Made) (entries : List Entry) (stable : List Cell) (front : List Entry) (n : ℕ) : Type 0 where
  pub later : List Entry
  pub is : entries ≡ front ++ later
  pub same : Same (cells_in made front) (take n stable)
  pub fits : n ≤ length stable

pub record HasFronts (made : Made) (lists : RegionKey → RegionFiles) (pins : ℕ → List Pinned) (p : Plain) : Type 0 where
  pub at : (a : ℕ) (r : RegionKey) (pin : Pinned) → last_pin (pins a) r ≡ Some pin → pin.fresh ≡ true → is_major (job_of p.live a) ≡ true → HasHold p.live a (holds.Compact r)
      → IsRegion p.tables r × HasFront made (lists r).entries (p.stable r) pin.entries (unwrap_or (p.noted a r) 0)

-- the cells of an entry are of its family
abbrev pub FitsEntry : Made → Entry → Type 0
FitsEntry made e = (c : Cell) → Member c (cells_of made e) → c.family ≡ (base_of e).family

-- so are those of the entries of lists, snapshots, captures, plans and pins
pub record HasFamilies (made : Made) (tables : Names PlainTable) (lists : RegionKey → RegionFiles) (snapshots : Names Snapshot) (captures : ℕ → RegionKey → Option RegionFiles) (plans : ℕ → Plan) (pins : ℕ → List Pinned) : Type 0 where
  pub listed : (r : RegionKey) (e : Entry) → IsRegion tables r → Member e (lists r).entries → FitsEntry made e
  pub completed : (name : List ℕ) (x : Snapshot) (e : Entry) → get snapshots name ≡ Some x → Member e (snapshot_entries x) → FitsEntry made e
  pub captured : (a : ℕ) (r : RegionKey) (l : RegionFiles) (e : Entry) → captures a r ≡ Some l → Member e l.entries → FitsEntry made e
  pub planned : (a : ℕ) (x : List ℕ × Entry) → Member x (plans a).entries → FitsEntry made x.1
  pub pinned : (a : ℕ) (p : Pinned) (e : Entry) → Member p (pins a) → Member e p.entries → FitsEntry made e
