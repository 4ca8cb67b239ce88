-- What holds of live actors: numbers, plans, captures and the pass.
use Rattle.std.specs.Prelude.{◌≡◌, ◌≢◌, ◌⊎◌, ℕ, ◌<◌, is_some, true, false, List, Option, Some, None, IsSome}
use Rattle.std.specs.FinMap.{get}
use Rattle.hb_layout.specs.declared.base.Base.{Base}
use Rattle.hb_records.specs.declared.region_info.RegionInfo.{RegionInfo}
use Rattle.plain_model.specs.declared.hold.Hold.{Hold}
use Rattle.plain_model.specs.declared.hold.Hold.TheVariants as holds
use Rattle.plain_model.specs.declared.job.Job.{Job}
use Rattle.plain_model.specs.declared.job.Job.TheVariants as jobs
use Rattle.plain_model.specs.declared.region_key.RegionKey.{RegionKey}
use Rattle.plain_model.specs.Names.{Names}
use Rattle.plain_model.specs.Conflicts.{excludes}
use Rattle.plain_model.specs.Keys.{key_of}
use Rattle.plain_model.specs.LiveEvents.{job_of}
use Rattle.plain_model.specs.declared.parts.Live.{Live}
use Rattle.plain_model.specs.declared.parts.PlainSnapshot.{PlainSnapshot}
use Rattle.plain_model.specs.declared.parts.PlainTable.{PlainTable}
use Rattle.core_model.specs.declared.entry.Entry.{Entry}
use Rattle.core_model.specs.declared.plan.Plan.{Plan}
use Rattle.core_model.specs.declared.region_files.RegionFiles.{RegionFiles}
use Rattle.core_model.specs.declared.snapshot.Snapshot.{Snapshot}
use Rattle.cell_sight.specs.Member.{Member}
use Rattle.core_model.specs.Entries.{base_of, is_own}
use Rattle.core_model.specs.Actors.{HasHold, IsLive, IsRegion, Plans}
use Rattle.core_model.specs.PassChanges.{snapshot_entries}
use Rattle.core_model.specs.State.{Pass, Parted, Pinned}

-- actors count up
pub record AreNumbered (live : List Live) (begun : ℕ) : Type 0 where
  pub below : (l : Live) → Member l live → l.actor.0 < begun
  pub differ : (l m : Live) → Member l live → Member m live → l.actor.0 ≡ m.actor.0 → l ≡ m

-- no two live actors have holds that exclude each other, but for a pass and a snapshot that was begun after it
pub record HoldsApart (live : List Live) : Type 0 where
  pub at : (l m : Live) (h k : Hold) → Member l live → Member m live → l.actor.0 ≢ m.actor.0 → Member h l.holds → Member k m.holds → excludes h k ≡ false

-- an actor's holds are those of its job
abbrev pub FitsJob : Hold → Job → Type 0
FitsJob (holds.Table t) (jobs.Create u families versions splits) = Unit {0}
FitsJob (holds.Table t) (jobs.Enable u) = Unit {0}
FitsJob (holds.Table t) (jobs.Disable u) = Unit {0}
FitsJob (holds.Table t) (jobs.Drop u) = Unit {0}
FitsJob (holds.Table t) (jobs.Clone name u) = Unit {0}
FitsJob (holds.Table t) (jobs.Restore name) = Unit {0}
FitsJob (holds.Region r) (jobs.Split u row) = Unit {0}
FitsJob (holds.Region r) jobs.Janitor = Unit {0}
FitsJob (holds.Flush r) (jobs.Flush u) = Unit {0}
FitsJob (holds.Compact r) (jobs.Compact u major) = Unit {0}
FitsJob (holds.Compact r) (jobs.Discharge u) = Unit {0}
FitsJob (holds.Use name) (jobs.Clone n t) = n ≡ name
FitsJob (holds.Use name) (jobs.Restore n) = n ≡ name
FitsJob (holds.Take name t) (jobs.Snapshot u n) = (u ≡ t) × (n ≡ name)
FitsJob (holds.Erase name) (jobs.DeleteSnapshot n) = n ≡ name
FitsJob (holds.Load t) (jobs.Bulk u folder) = u ≡ t
FitsJob holds.Pass jobs.Clean = Unit {0}
FitsJob _ _ = ⊥

pub record HoldsFit (live : List Live) : Type 0 where
  pub at : (l : Live) (h : Hold) → Member l live → Member h l.holds → FitsJob h l.job

-- a job that reads a snapshot holds its use
abbrev pub used_by : Job → Option (List ℕ)
used_by (jobs.Clone name t) = Some name
used_by (jobs.Restore name) = Some name
used_by _ = None

pub record HasUses (live : List Live) : Type 0 where
  pub at : (l : Live) (name : List ℕ) → Member l live → used_by l.job ≡ Some name → Member (holds.Use name) l.holds

-- a snapshot that is used is complete; one that is taken is so once its actor has completed it
pub record SnapshotsHeld (live : List Live) (snapshots : Names Snapshot) (parted : ℕ → Parted) : Type 0 where
  pub used : (a : ℕ) (name : List ℕ) → HasHold live a (holds.Use name) → IsSome (get snapshots name)
  pub taken : (a : ℕ) (name t : List ℕ) → HasHold live a (holds.Take name t) → (parted a).done ≡ false → get snapshots name ≡ None
  pub done : (a : ℕ) (name t : List ℕ) → HasHold live a (holds.Take name t) → (parted a).done ≡ true → IsSome (get snapshots name)

-- what is planned: by a live actor, for a region whose name was drawn and is in no set, and by no other actor
pub record PlansOnce (plans : ℕ → Plan) (live : List Live) (drawn : List RegionKey) (tables : Names PlainTable) : Type 0 where
  pub by_live : (a : ℕ) (i : RegionInfo) → Member i (plans a).regions → IsLive live a
  pub was_drawn : (a : ℕ) (i : RegionInfo) → Member i (plans a).regions → Member (key_of i) drawn
  pub is_new : (a : ℕ) (i : RegionInfo) → Member i (plans a).regions → IsRegion tables (key_of i) → ⊥
  pub alone : (a b : ℕ) (i j : RegionInfo) → Member i (plans a).regions → Member j (plans b).regions → key_of i ≡ key_of j → a ≡ b
  -- each planned entry is for a planned region
  pub entries : (a : ℕ) (x : List ℕ × Entry) → Member x (plans a).entries → (i : RegionInfo) × Member i (plans a).regions × ((key_of i).region ≡ x.0)

-- the entries of the list of a region that is being built are planned for it, and none is an own file
pub record BuiltLists (plans : ℕ → Plan) (lists : RegionKey → RegionFiles) : Type 0 where
  pub at : (a : ℕ) (i : RegionInfo) (e : Entry) → Member i (plans a).regions → Member e (lists (key_of i)).entries → (is_own e ≡ false) × Plans plans a (key_of i) e

-- an entry of a completed snapshot, or of a list, reads the base
pub record IsSourceIn (es : List Entry) (b : Base) : Type 0 where
  pub entry : Entry
  pub listed : Member entry es
  pub reads : base_of entry ≡ b

-- where planned bases come from: a snapshot that the actor uses, or the list of the region that it splits
abbrev pub ComesFrom : Option Job → ℕ → Base → List Live → Names PlainTable → Names Snapshot → (RegionKey → RegionFiles) → Type 0
ComesFrom (Some (jobs.Clone name t)) a b live tables snapshots lists =
    HasHold live a (holds.Use name) × ((x : Snapshot) × (get snapshots name ≡ Some x) × IsSourceIn (snapshot_entries x) b)
ComesFrom (Some (jobs.Restore name)) a b live tables snapshots lists =
    HasHold live a (holds.Use name) × ((x : Snapshot) × (get snapshots name ≡ Some x) × IsSourceIn (snapshot_entries x) b)
ComesFrom (Some (jobs.Split t row)) a b live tables snapshots lists =
    (parent : RegionKey) × HasHold live a (holds.Region parent) × IsRegion tables parent × IsSourceIn (lists parent).entries b
ComesFrom _ a b live tables snapshots lists = ⊥

pub record PlansSources (plans : ℕ → Plan) (live : List Live) (tables : Names PlainTable) (snapshots : Names Snapshot) (lists : RegionKey → RegionFiles) : Type 0 where
  pub at : (a : ℕ) (x : List ℕ × Entry) → Member x (plans a).entries → ComesFrom (job_of live a) a (base_of x.1) live tables snapshots lists

-- captures are those of an actor that takes a snapshot of the table
pub record CapturesHeld (captures : ℕ → RegionKey → Option RegionFiles) (live : List Live) : Type 0 where
  pub at : (a : ℕ) (r : RegionKey) (l : RegionFiles) → captures a r ≡ Some l → (name : List ℕ) × HasHold live a (holds.Take name r.table)

-- the open pass is a live actor's, which holds it
pub record PassHeld (pass : Option Pass) (live : List Live) : Type 0 where
  pub at : (p : Pass) → pass ≡ Some p → HasHold live p.actor holds.Pass

-- while a pass is open: each base captured is touched; each base of a completed snapshot is read, or touched, or its
-- snapshot is still to be read
pub record PassKnows (pass : Option Pass) (snapshots : Names Snapshot) (captures : ℕ → RegionKey → Option RegionFiles) : Type 0 where
  pub captured : (p : Pass) (a : ℕ) (r : RegionKey) (l : RegionFiles) (e : Entry) → pass ≡ Some p → captures a r ≡ Some l → Member e l.entries
      → p.touched (base_of e) ≡ true
  pub completed : (p : Pass) (name : List ℕ) (x : Snapshot) (e : Entry) → pass ≡ Some p → get snapshots name ≡ Some x → Member e (snapshot_entries x)
      → Member name p.unread ⊎ ((p.read (base_of e) ≡ true) ⊎ (p.touched (base_of e) ≡ true))

-- the complete snapshots are those of the plain machine
pub record SnapshotsAlike (snapshots : Names Snapshot) (copies : Names PlainSnapshot) : Type 0 where
  pub at : (name : List ℕ) → is_some (get snapshots name) ≡ is_some (get copies name)

-- the table of a snapshot that is taken is there
pub record TakenThere (live : List Live) (tables : Names PlainTable) : Type 0 where
  pub at : (a : ℕ) (name t : List ℕ) → HasHold live a (holds.Take name t) → IsSome (get tables t)

-- what has ended has no pins
pub record OwnersLive (live : List Live) (pins : ℕ → List Pinned) : Type 0 where
  pub pinning : (a : ℕ) (p : Pinned) → Member p (pins a) → IsLive live a

-- the hold that a job's change of a table wants
abbrev pub HasOwnHold : Job → List Hold → Type 0
HasOwnHold (jobs.Create t families versions splits) hs = Member (holds.Table t) hs
HasOwnHold (jobs.Enable t) hs = Member (holds.Table t) hs
HasOwnHold (jobs.Disable t) hs = Member (holds.Table t) hs
HasOwnHold (jobs.Drop t) hs = Member (holds.Table t) hs
HasOwnHold (jobs.Clone name t) hs = Member (holds.Table t) hs
HasOwnHold _ hs = Unit {0}

pub record JobsHeld (live : List Live) : Type 0 where
  pub at : (l : Live) → Member l live → HasOwnHold l.job l.holds
