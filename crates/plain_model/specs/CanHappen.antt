-- When an event can happen: what it changes or reads is there, and what it makes is not.
use Rattle.std.specs.Prelude.{◌≡◌, ℕ, ◌+◌, ◌≤◌, true, List, [], ◌∷◌, length, All, slice_get, Option, Some, None, IsSome, IfSome, IsNone}
use Rattle.plain_model.specs.After.{after}
use Rattle.std.specs.FinMap.{get}
use Rattle.hb_cell.specs.declared.cell.Cell.{Cell}
use Rattle.hb_records.specs.declared.region_info.RegionInfo.{RegionInfo}
use Rattle.plain_model.specs.declared.event.Event.{Event}
use Rattle.plain_model.specs.declared.event.Event.TheVariants.{Put, Draw, Freeze, Flush, MajorStart, Major, Bulk, Capture, Complete, Delete, Create, Enable, Disable, Drop, Split, Clone, Restore, Remove, At, Stop}
use Rattle.plain_model.specs.declared.job.Job.{Job}
use Rattle.plain_model.specs.declared.job.Job.TheVariants as jobs
use Rattle.plain_model.specs.declared.region_key.RegionKey.{RegionKey}
use Rattle.hb_cell.specs.Order.{is_below}
use Rattle.plain_model.specs.Keys.{key_of, key_at, encoded}
use Rattle.plain_model.specs.LiveEvents.{region_at, job_of, live_of}
use Rattle.plain_model.specs.Plain.{Plain}
use Rattle.plain_model.specs.declared.parts.PlainSnapshot.{PlainSnapshot}
use Rattle.plain_model.specs.declared.put_cell.TheConstants.{MAX_NUMBER}
use Rattle.plain_model.specs.Rows.{holds_row}

abbrev pub HasTable : Plain → List ℕ → Type 0
HasTable s t = IsSome (get s.tables t)

abbrev pub LacksTable : Plain → List ℕ → Type 0
LacksTable s t = IsNone (get s.tables t)

-- the region is in its table's set
abbrev pub HasRegion : Plain → RegionKey → Type 0
HasRegion s k = IsSome (region_at s.tables k)

abbrev pub LacksRegion : Plain → RegionKey → Type 0
LacksRegion s k = IsNone (region_at s.tables k)

abbrev pub HasSnapshot : Plain → List ℕ → Type 0
HasSnapshot s name = IsSome (get s.snapshots name)

abbrev pub IsLive : Plain → ℕ → Type 0
IsLive s a = IsSome (live_of s.live a)

-- the regions are of this table, and their names are new to it and differ
pub record AreNew (s : Plain) (t : List ℕ) (regions : List RegionInfo) : Type 0 where
  pub of_table : All (λ (r : RegionInfo). r.table ≡ t) regions
  pub new : All (λ r. LacksRegion s (key_of r)) regions
  pub differ : (i j : ℕ) (r q : RegionInfo) → slice_get regions i ≡ Some r → slice_get regions j ≡ Some q → encoded r ≡ encoded q → i ≡ j

-- the snapshot has as many regions
abbrev pub HasCopies : Plain → List ℕ → ℕ → Type 0
HasCopies s name n = IfSome (get s.snapshots name) (λ (x : PlainSnapshot). length x.regions ≡ n)

-- the halves of a region: the lower one ends at the row within it at which the upper one begins
pub record AreHalves (whole low high : RegionInfo) : Type 0 where
  pub start : low.start ≡ whole.start
  pub end : high.end ≡ whole.end
  pub border : low.end ≡ Some high.start
  pub above : is_below whole.start high.start ≡ true
  pub within : holds_row whole high.start ≡ true

-- a snapshot of this job can be completed
abbrev pub CanComplete : Plain → Option Job → Type 0
CanComplete s (Some (jobs.Snapshot t name)) = HasTable s t × IsNone (get s.snapshots name)
CanComplete s _ = ⊥

abbrev pub CanPut : Plain → RegionKey → Cell → Type 0
CanPut s k c = HasRegion s k × (c.seq ≡ s.seq k + 1) × (s.seq k + 1 ≤ MAX_NUMBER)

abbrev pub CanSplit : Plain → List ℕ → List ℕ → RegionInfo → RegionInfo → Type 0
CanSplit s t parent low high =
    (whole : RegionInfo) × (region_at s.tables (key_at t parent) ≡ Some whole) × AreHalves whole low high × AreNew s t (low ∷ high ∷ [])

abbrev pub CanHappen : Event → Plain → Type 0
CanHappen (Put k c) s = CanPut s k c
CanHappen (Draw k) s = HasRegion s k × (s.seq k + 1 ≤ MAX_NUMBER)
CanHappen (Freeze k) s = HasRegion s k
CanHappen (Flush k) s = HasRegion s k
CanHappen (MajorStart a k) s = IsLive s a.0 × HasRegion s k
CanHappen (Major a k) s = IsLive s a.0 × HasRegion s k × IsSome (s.noted a.0 k)
CanHappen (Bulk k cells) s = HasRegion s k × All (λ (c : Cell). c.seq ≤ MAX_NUMBER) cells
CanHappen (Capture a k) s = IsLive s a.0 × HasRegion s k
CanHappen (Complete a) s = CanComplete s (job_of s.live a.0)
CanHappen (Delete name) s = HasSnapshot s name
CanHappen (Create schema regions) s = LacksTable s schema.table × AreNew s schema.table regions
CanHappen (Enable t) s = HasTable s t
CanHappen (Disable t) s = HasTable s t
CanHappen (Drop t) s = HasTable s t
CanHappen (Split t parent low high) s = CanSplit s t parent low high
CanHappen (Clone name t regions) s = LacksTable s t × HasSnapshot s name × AreNew s t regions × HasCopies s name (length regions)
CanHappen (Restore name regions) s =
    HasSnapshot s name × HasCopies s name (length regions) × IfSome (get s.snapshots name) (λ (x : PlainSnapshot). HasTable s x.schema.table × AreNew s x.schema.table regions)
CanHappen (Remove t regions) s = HasTable s t × All (λ r. HasRegion s (key_at t r)) regions
CanHappen (At a (Some job) holds) s = IsNone (live_of s.live a.0)
CanHappen (At a None holds) s = IsLive s a.0
CanHappen Stop s = Unit {0}

-- each of some events can happen in the state that those before it lead to
abbrev pub CanHappenAll : Plain → List Event → Type 0
CanHappenAll s [] = Unit {0}
CanHappenAll s (e ∷ es) = CanHappen e s × CanHappenAll (after e s) es
