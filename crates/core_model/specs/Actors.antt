-- What live actors have, and what they keep in place.
use Rattle.std.specs.Prelude.{◌≡◌, ◌⊎◌, ℕ, Bool, true, false, cond, List, [], ◌∷◌, Option, Some, None, IsSome}
use Rattle.std.specs.FinMap.{get}
use Rattle.hb_layout.specs.declared.base.Base.{Base}
use Rattle.hb_records.specs.declared.region_info.RegionInfo.{RegionInfo}
use Rattle.plain_model.specs.declared.hold.Hold.{Hold}
use Rattle.plain_model.specs.declared.hold.Hold.TheVariants as holds
use Rattle.plain_model.specs.declared.job.Job.{Job}
use Rattle.plain_model.specs.declared.region_key.RegionKey.{RegionKey}
use Rattle.plain_model.specs.Names.{Names}
use Rattle.plain_model.specs.Keys.{key_of, same_key}
use Rattle.plain_model.specs.LiveEvents.{live_of, job_of}
use Rattle.plain_model.specs.declared.parts.Live.{Live}
use Rattle.plain_model.specs.declared.parts.PlainTable.{PlainTable}
use Rattle.core_model.specs.declared.entry.Entry.{Entry}
use Rattle.core_model.specs.declared.entry.Entry.TheVariants.{Own}
use Rattle.core_model.specs.declared.plan.Plan.{Plan}
use Rattle.core_model.specs.declared.region_files.RegionFiles.{RegionFiles}
use Rattle.cell_sight.specs.Member.{Member}
use Rattle.core_model.specs.Entries.{base_of}
use Rattle.core_model.specs.State.{Pinned}

-- the actor is live and has this job, this hold
abbrev pub HasJob : List Live → ℕ → Job → Type 0
HasJob live a job = job_of live a ≡ Some job

pub record HasHold (live : List Live) (a : ℕ) (h : Hold) : Type 0 where
  pub activity : Live
  pub at_work : live_of live a ≡ Some activity
  pub held : Member h activity.holds

abbrev pub IsLive : List Live → ℕ → Type 0
IsLive live a = IsSome (live_of live a)

-- the actor may flush the region
pub data MayFreeze (live : List Live) (a : ℕ) (r : RegionKey) : Type 0 where
  by_table : HasHold live a (holds.Table r.table) → MayFreeze live a r
  by_region : HasHold live a (holds.Region r) → MayFreeze live a r
  by_flush : HasHold live a (holds.Flush r) → MayFreeze live a r
  by_take : (name : List ℕ) → HasHold live a (holds.Take name r.table) → MayFreeze live a r

-- and commit its flush, which a snapshot's actor does by a capture
pub data MayFlush (live : List Live) (a : ℕ) (r : RegionKey) : Type 0 where
  commits_table : HasHold live a (holds.Table r.table) → MayFlush live a r
  commits_region : HasHold live a (holds.Region r) → MayFlush live a r
  commits_flush : HasHold live a (holds.Flush r) → MayFlush live a r

-- the region is in the newest set of its table, split or open; and it is open
pub record InSet (tables : Names PlainTable) (r : RegionKey) (split : Bool) : Type 0 where
  pub table : PlainTable
  pub stands : get tables r.table ≡ Some table
  pub info : RegionInfo
  pub listed : Member (info, split) table.regions
  pub key : key_of info ≡ r

abbrev pub IsRegion : Names PlainTable → RegionKey → Type 0
IsRegion tables r = InSet tables r false ⊎ InSet tables r true

-- the base is an own file in the newest list of a region in a newest set
pub record OwnListed (tables : Names PlainTable) (lists : RegionKey → RegionFiles) (b : Base) : Type 0 where
  pub region : RegionKey
  pub listed : IsRegion tables region
  pub entry : Member (Own b) (lists region).entries

-- an entry that an actor has pinned, and a base of which one is pinned. What has ended has no pins
pub record HasPinned (pins : ℕ → List Pinned) (a : ℕ) (e : Entry) : Type 0 where
  pub pin : Pinned
  pub stands : Member pin (pins a)
  pub entry : Member e pin.entries

pub record IsPinned (pins : ℕ → List Pinned) (b : Base) : Type 0 where
  pub actor : ℕ
  pub entry : Entry
  pub pinned : HasPinned pins actor entry
  pub reads : base_of entry ≡ b

-- the last pin of a region
abbrev pub last_pin : List Pinned → RegionKey → Option Pinned
last_pin [] r = None
last_pin (p ∷ ps) r = cond (same_key p.region r) (Some p) (last_pin ps r)

-- the actor plans the entry in the region
abbrev pub Plans : (ℕ → Plan) → ℕ → RegionKey → Entry → Type 0
Plans plans a r e = Member (r.region, e) (plans a).entries

-- a live actor builds the region over the base
pub record Builds (plans : ℕ → Plan) (r : RegionKey) (b : Base) : Type 0 where
  pub actor : ℕ
  pub info : RegionInfo
  pub region : Member info (plans actor).regions
  pub key : key_of info ≡ r
  pub entry : Entry
  pub planned : Plans plans actor r entry
  pub reads : base_of entry ≡ b

-- an actor is to build the region
pub record IsPlanned (plans : ℕ → Plan) (r : RegionKey) : Type 0 where
  pub actor : ℕ
  pub info : RegionInfo
  pub region : Member info (plans actor).regions
  pub key : key_of info ≡ r

-- this actor is to build it
pub record IsToBuild (plans : ℕ → Plan) (a : ℕ) (r : RegionKey) : Type 0 where
  pub info : RegionInfo
  pub region : Member info (plans a).regions
  pub key : key_of info ≡ r

-- the region is in the newest set of its table, or is being built
abbrev pub Counts : Names PlainTable → (ℕ → Plan) → RegionKey → Type 0
Counts tables plans r = IsRegion tables r ⊎ IsPlanned plans r

-- nothing keeps the base's file live: no list has it as its own, no pin holds it, no actor is about to list it
pub record IsFree (b : Base) (tables : Names PlainTable) (lists : RegionKey → RegionFiles) (pins : ℕ → List Pinned) (waiting : Base → Option ℕ) : Type 0 where
  pub unlisted : OwnListed tables lists b → ⊥
  pub unpinned : IsPinned pins b → ⊥
  pub not_waiting : waiting b ≡ None
