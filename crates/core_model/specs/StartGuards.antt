-- When a job may start, a cell be put, and a region be pinned, and what is answered.
use Rattle.std.specs.Prelude.{◌≤◌, ◌≡◌, ◌≢◌, ◌↔◌, ℕ, ◌+◌, ◌<◌, Bool, true, false, ◌&&◌, ◌||◌, List, [], ◌∷◌, ◌++◌, length, map, Option, Some, None, is_some, is_none, Result, Ok, Err}
use Rattle.std.specs.List.{filter, flat_map}
use Rattle.std.specs.FinMap.{entries}
use Rattle.hb_records.specs.declared.region_info.RegionInfo.{RegionInfo}
use Rattle.hb_layout.specs.declared.base.Base.{Base}
use Rattle.core_model.specs.Site.{StoreList, Live, Archived, BackRefTo, Staged}
use Rattle.hb_file_names.specs.RefName.{ref_text}
use Rattle.ns_tree.specs.declared.file.FileState.{FileState}
use Rattle.plain_model.specs.declared.job.Job.{Job}
use Rattle.plain_model.specs.declared.job.Job.TheVariants as jobs
use Rattle.plain_model.specs.declared.put_cell.PutCell.{PutCell}
use Rattle.plain_model.specs.declared.region_key.RegionKey.{RegionKey}
use Rattle.plain_model.specs.declared.reply.Reply.{Reply}
use Rattle.plain_model.specs.declared.reply.Reply.TheVariants.{Fine}
use Rattle.plain_model.specs.declared.who.Actor.{Actor}
use Rattle.hb_cell.specs.Order.{is_below, same_bytes}
use Rattle.plain_model.specs.Keys.{key_of, key_at}
use Rattle.plain_model.specs.Found.{key_with}
use Rattle.plain_model.specs.Held.{held_by, put_held_by}
use Rattle.plain_model.specs.Holds.{holds_of}
use Rattle.plain_model.specs.LiveEvents.{job_of}
use Rattle.plain_model.specs.Plain.{Plain}
use Rattle.plain_model.specs.declared.parts.PlainTable.{PlainTable}
use Rattle.plain_model.specs.Replies.{Files, reply, reply_with}
use Rattle.plain_model.specs.ScanView.{pin_refusal}
use Rattle.plain_model.specs.declared.put_cell.TheConstants.{MAX_NUMBER}
use Rattle.core_model.specs.declared.entry.Entry.{Entry}
use Rattle.core_model.specs.declared.region_files.RegionFiles.{RegionFiles}
use Rattle.core_model.specs.declared.step.Drawn.{Drawn}
use Rattle.core_model.specs.declared.step.Started.{Started}
use Rattle.core_model.specs.declared.step.Started.TheVariants as started
use Rattle.core_model.specs.declared.targets.PinTarget.{PinTarget}
use Rattle.core_model.specs.declared.targets.PinTarget.TheVariants as targets
use Rattle.cell_sight.specs.Member.{Member}
use Rattle.core_model.specs.Keys.{home}
use Rattle.core_model.specs.Disk.{Disk, Bases, live_of}
use Rattle.core_model.specs.Entries.{is_half}
use Rattle.core_model.specs.Actors.{IsLive, HasJob, IsRegion}
use Rattle.core_model.specs.Plans.{region_id, new_regions, planned_entries}
use Rattle.core_model.specs.State.{Parts, no_plan}

-- ---- a cell

-- the cell joins this region with this number, or is refused
abbrev pub JoinsAs : List ℕ → PutCell → Option ℕ → Option (List ℕ × ℕ) → Plain → Type 0
JoinsAs table put moment (Some joined) p =
    (reply p (jobs.Put table put) ≡ Fine) × (key_with p table put.row ≡ Some (key_at table joined.0))
    × (joined.1 ≡ p.seq (key_at table joined.0) + 1) × (joined.1 ≤ MAX_NUMBER) × (is_some moment ≡ is_none put.ts)
JoinsAs table put moment None p = (reply p (jobs.Put table put) ≢ Fine) × (moment ≡ None)

pub record CanPut (table : List ℕ) (put : PutCell) (moment : Option ℕ) (joined : Option (List ℕ × ℕ)) (p : Plain) : Type 0 where
  -- no live actor has the table, or the region of the row
  pub free : put_held_by p.live table (key_with p table put.row) ≡ None
  pub answered : JoinsAs table put moment joined p

-- ---- a start

-- a job within its limits: a new table has 1 to 16 families and at most 1,000 regions
abbrev pub IsWithinLimits : Job → Type 0
IsWithinLimits (jobs.Create t families versions splits) = (1 ≤ length families) × (length families ≤ 16) × (length splits ≤ 999)
IsWithinLimits _ = Unit {0}

-- a job that starts an activity
abbrev pub IsActivity : Job → Type 0
IsActivity jobs.ListSnapshots = ⊥
IsActivity (jobs.Put t cell) = ⊥
IsActivity _ = Unit {0}

-- a file stands in a region's directory, under the data or in the archive
pub data StandsBelow (disk : Disk) (r : RegionKey) : Type 0 where
  live_file : (b : Base) (f : FileState) → home b ≡ r → disk (Live b) ≡ Some f → StandsBelow disk r
  archived_file : (b : Base) (f : FileState) → home b ≡ r → disk (Archived b) ≡ Some f → StandsBelow disk r
  list_file : (n : ℕ) (f : FileState) → disk (StoreList r.table r.region n) ≡ Some f → StandsBelow disk r
  back_file : (b : Base) (text : List ℕ) (f : FileState) → home b ≡ r → disk (BackRefTo b text) ≡ Some f → StandsBelow disk r

-- an encoded name is taken: by another new region, by one drawn before, by one of the newest set, or by a directory
pub data IsTaken (disk : Disk) (drawn : List RegionKey) (p : Plain) (new : List RegionInfo) : Type 0 where
  by_new : (before between behind : List RegionInfo) (r q : RegionInfo) → new ≡ before ++ (r ∷ between ++ (q ∷ behind)) → key_of r ≡ key_of q → IsTaken disk drawn p new
  by_drawn : (r : RegionInfo) → Member r new → Member (key_of r) drawn → IsTaken disk drawn p new
  by_set : (r : RegionInfo) → Member r new → IsRegion p.tables (key_of r) → IsTaken disk drawn p new
  by_directory : (r : RegionInfo) → Member r new → StandsBelow disk (key_of r) → IsTaken disk drawn p new

-- the regions that a job would split have a half in their list
abbrev pub row_of_split : Job → Option (List ℕ × List ℕ)
row_of_split (jobs.Split t row) = Some (t, row)
row_of_split _ = None

pub record HasHalf (job : Job) (p : Plain) (lists : RegionKey → RegionFiles) : Type 0 where
  pub table : List ℕ
  pub row : List ℕ
  pub splits : row_of_split job ≡ Some (table, row)
  pub region : RegionKey
  pub holds : key_with p table row ≡ Some region
  pub entry : Entry
  pub listed : Member entry (lists region).entries
  pub half : is_half entry ≡ true

-- what the replies ask of files
pub record AreFiles (files : Files) (job : Job) (new : List RegionInfo) (s : Parts) : Type 0 where
  pub name_taken : (files.name_taken ≡ true) ↔ IsTaken s.disk s.drawn s.plain new
  pub has_references : (files.has_references ≡ true) ↔ HasHalf job s.plain s.lists

-- a half file of a table that refers to a region
pub record IsReferredTo (live : Bases) (r : RegionKey) : Type 0 where
  pub base : Base
  pub name : List ℕ
  pub file : FileState
  pub stands : live base ≡ Some file
  pub table : base.table ≡ r.table
  pub half : base.name ≡ ref_text name r.region

-- the split regions of all tables in order
abbrev pub split_keys : PlainTable → List RegionKey
split_keys t = map (λ (x : RegionInfo × Bool). key_of x.0) (filter (λ (x : RegionInfo × Bool). x.1) t.regions)

abbrev pub all_split_keys : Plain → List RegionKey
all_split_keys p = flat_map (λ (x : List ℕ × PlainTable). split_keys x.1) (entries p.tables)

-- those to which no half file of their table refers
pub record AreUnreferenced (live : Bases) (p : Plain) (regions : List RegionKey) : Type 0 where
  pub is_old : RegionKey → Bool
  pub exact : (r : RegionKey) → (is_old r ≡ false) ↔ IsReferredTo live r
  pub filtered : regions ≡ filter is_old (all_split_keys p)

-- the regions that a Janitor clears; no other job's holds ask for them
abbrev pub AreToClear : Job → Bases → Plain → List RegionKey → Type 0
AreToClear jobs.Janitor live p regions = AreUnreferenced live p regions
AreToClear _ live p regions = Unit {0}

-- a Clean's moment, and no other's
abbrev pub needs_moment : Job → Bool
needs_moment jobs.Clean = true
needs_moment _ = false

-- the files in the folder of a bulk load, in the order of family and name
abbrev pub is_file_before : List ℕ × List ℕ → List ℕ × List ℕ → Bool
is_file_before x y = is_below x.0 y.0 || (same_bytes x.0 y.0 && is_below x.1 y.1)

abbrev pub Ascends : List (List ℕ × List ℕ) → Type 0
Ascends [] = Unit {0}
Ascends (x ∷ []) = Unit {0}
Ascends (x ∷ y ∷ ys) = (is_file_before x y ≡ true) × Ascends (y ∷ ys)

abbrev pub AreStaged : Job → Disk → List (List ℕ × List ℕ) → Type 0
AreStaged (jobs.Bulk t folder) disk staged =
    Ascends staged × ((family name : List ℕ) → Member (family, name) staged ↔ ((f : FileState) × (disk (Staged folder family name) ≡ Some f)))
AreStaged _ disk staged = staged ≡ []

-- what a start draws, where it is not refused
pub record Draws (job : Job) (actor : Actor) (drawn : Drawn) (new : List RegionInfo) (s : Parts) : Type 0 where
  pub number : actor.0 ≡ s.begun
  pub regions : drawn.regions ≡ new
  pub moment : is_some drawn.moment ≡ needs_moment job
  pub plan : drawn.plan ≡ record { regions = new; entries = planned_entries job new s.plain s.snapshots s.lists }
  pub staged : AreStaged job s.disk drawn.staged

-- a refused start draws nothing
pub record DrawsNothing (drawn : Drawn) : Type 0 where
  pub regions : drawn.regions ≡ []
  pub moment : drawn.moment ≡ None
  pub plan : drawn.plan ≡ no_plan
  pub staged : drawn.staged ≡ []

abbrev pub AnswersWith : Job → Started → Drawn → Files → List RegionInfo → Parts → Type 0
AnswersWith job (started.Live actor) drawn files new s = (reply_with files s.plain job ≡ Fine) × Draws job actor drawn new s
AnswersWith job (started.Refused refusal) drawn files new s = (reply_with files s.plain job ≡ refusal) × (refusal ≢ Fine) × DrawsNothing drawn

-- the regions that the job would make
abbrev pub regions_for : Job → Parts → List RegionInfo
regions_for job s = new_regions job (region_id s.epoch (s.ids + 1)) s.plain s.snapshots

pub record CanStart (job : Job) (answer : Started) (drawn : Drawn) (s : Parts) : Type 0 where
  pub activity : IsActivity job
  pub limits : IsWithinLimits job
  pub unreferenced : List RegionKey
  pub are_unreferenced : AreToClear job (live_of s.disk) s.plain unreferenced
  pub holds : drawn.holds ≡ holds_of unreferenced s.plain job
  -- no live actor has a hold in conflict
  pub free : held_by s.plain.live drawn.holds ≡ None
  pub files : Files
  pub are_files : AreFiles files job (regions_for job s) s
  pub answered : AnswersWith job answer drawn files (regions_for job s) s

-- ---- a pin

-- a scan pins the open region that holds a row, or is refused; any other actor pins a region of a newest set
abbrev pub PinsAs : PinTarget → Result RegionKey Reply → ℕ → Plain → Type 0
PinsAs (targets.Scan row) (Ok r) a p = (t : List ℕ) × HasJob p.live a (jobs.Scan t) × (pin_refusal p t ≡ None) × (key_with p t row ≡ Some r)
PinsAs (targets.Scan row) (Err refusal) a p = (t : List ℕ) × HasJob p.live a (jobs.Scan t) × (pin_refusal p t ≡ Some refusal)
PinsAs (targets.Region q) (Ok r) a p = (q ≡ r) × IsRegion p.tables r
PinsAs (targets.Region q) (Err refusal) a p = ⊥

-- whether a job is a major compaction
abbrev pub is_major : Option Job → Bool
is_major (Some (jobs.Compact t major)) = major
is_major _ = false

pub record CanPin (a : ℕ) (target : PinTarget) (found : Result RegionKey Reply) (major : Bool) (p : Plain) : Type 0 where
  pub live : IsLive p.live a
  pub answered : PinsAs target found a p
  pub begins : major ≡ is_major (job_of p.live a)
