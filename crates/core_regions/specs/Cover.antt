-- That the regions of tables, of plans and of snapshots cover all rows.
use Rattle.std.specs.Prelude.{◌≡◌, ◌≢◌, ℕ, ◌≤◌, ◌<◌, Bool, true, false, List, [], ◌∷◌, length, map, take, Option, Some, None}
use Rattle.std.specs.List.{AllZip, AllByRecursion}
use Rattle.std.specs.FinMap.{get}
use Rattle.cell_sight.specs.Member.{Member}
use Rattle.hb_records.specs.declared.region_info.RegionInfo.{RegionInfo}
use Rattle.ns_tree.specs.Tree.{Tree}
use Rattle.plain_model.specs.declared.event.Event.TheVariants as event
use Rattle.plain_model.specs.declared.hold.Hold.TheVariants as holds
use Rattle.plain_model.specs.declared.job.Job.{Job}
use Rattle.plain_model.specs.declared.job.Job.TheVariants as jobs
use Rattle.plain_model.specs.declared.parts.Live.{Live}
use Rattle.plain_model.specs.declared.parts.PlainSnapshot.{PlainSnapshot}
use Rattle.plain_model.specs.declared.parts.PlainTable.{PlainTable}
use Rattle.plain_model.specs.declared.region_key.RegionKey.{RegionKey}
use Rattle.plain_model.specs.CanHappen.{AreHalves}
use Rattle.plain_model.specs.Keys.{encoded, key_of}
use Rattle.plain_model.specs.LiveEvents.{job_of}
use Rattle.plain_model.specs.Names.{Names}
use Rattle.plain_model.specs.Rows.{CoverAll, open_of}
use Rattle.region_set.specs.declared.region_set.RegionSet.{RegionSet}
use Rattle.core_model.specs.declared.journal.JournalEntry.{JournalEntry}
use Rattle.core_model.specs.declared.opening.Opening.{Opening}
use Rattle.core_model.specs.declared.plan.Plan.{Plan}
use Rattle.core_model.specs.declared.snapshot.CopiedRegion.{CopiedRegion}
use Rattle.core_model.specs.declared.snapshot.Snapshot.{Snapshot}
use Rattle.core_model.specs.declared.step.Step.{Step}
use Rattle.core_model.specs.declared.step.Step.TheVariants as step
use Rattle.core_model.specs.Actors.{HasHold}
use Rattle.core_model.specs.Allows.{Allows, AllowsAll}
use Rattle.core_model.specs.Replay.{after, begun, replay}
use Rattle.core_model.specs.Sound.{IsSound}
use Rattle.core_model.specs.State.{Parts, State}
use Rattle.core_bytes.specs.Laws.{WriteFrom}
use Rattle.core_bytes.specs.Written.{IsWritten}
use Rattle.core_contents.specs.Faithful.{IsFaithful}
use Rattle.core_opens.specs.Begins.{CanBegin}
use Rattle.core_opens.specs.Fits.{AreFamilies, AreRegions, EachTwo}

-- ---- tables and snapshots

-- regions, split or open, of which no two have one encoded name
abbrev pub Differ : List (RegionInfo × Bool) → Type 0
Differ regions = EachTwo (λ (i j : RegionInfo × Bool). encoded i.0 ≢ encoded j.0) regions

-- a table whose open regions cover all rows, with at most 1,000 regions, whose encoded names differ, and 1 to 16 families
pub record IsFitTable (table : PlainTable) : Type 0 where
  pub regions : AreRegions (open_of table.regions)
  pub few : length table.regions ≤ 1000
  pub families : AreFamilies table.schema.families
  pub differ : Differ table.regions

pub record TablesFit (tables : Names PlainTable) : Type 0 where
  pub at : (t : List ℕ) (table : PlainTable) → get tables t ≡ Some table → IsFitTable table

-- the regions of a snapshot, of its own table
abbrev pub infos_in : List CopiedRegion → List RegionInfo
infos_in regions = map (λ (r : CopiedRegion). r.info) regions

pub record IsFitSnapshot (x : Snapshot) : Type 0 where
  pub regions : AreRegions (infos_in x.regions)
  pub families : AreFamilies x.schema.families
  pub table : (r : CopiedRegion) → Member r x.regions → r.info.table ≡ x.schema.table

pub record SnapshotsFit (snapshots : Names Snapshot) : Type 0 where
  pub at : (name : List ℕ) (x : Snapshot) → get snapshots name ≡ Some x → IsFitSnapshot x

-- ---- plans

-- the regions of a table that is about to be made
pub record AreNewRegions (regions : List RegionInfo) : Type 0 where
  pub cover : CoverAll regions
  pub differ : EachTwo (λ (i j : RegionInfo). encoded i ≢ encoded j) regions

-- the region is in the set of its table, split or open
pub record IsListed (tables : Names PlainTable) (i : RegionInfo) (split : Bool) : Type 0 where
  pub table : PlainTable
  pub stands : get tables i.table ≡ Some table
  pub listed : Member (i, split) table.regions

-- two regions are the halves of an open one, which the actor holds
pub record Divides (a : ℕ) (low high : RegionInfo) (live : List Live) (tables : Names PlainTable) : Type 0 where
  pub whole : RegionInfo
  pub held : HasHold live a (holds.Region (key_of whole))
  pub is_open : IsListed tables whole false
  pub halves : AreHalves whole low high

-- a region has the bounds of a copied one
pub record HasBounds (i : RegionInfo) (r : CopiedRegion) : Type 0 where
  pub start : i.start ≡ r.info.start
  pub end : i.end ≡ r.info.end

-- new regions with the bounds of a snapshot's
pub record CopiesBounds (name : List ℕ) (plan : Plan) (snapshots : Names Snapshot) : Type 0 where
  pub new : AreNewRegions plan.regions
  pub x : Snapshot
  pub stands : get snapshots name ≡ Some x
  pub bounds : AllZip HasBounds plan.regions x.regions

abbrev pub table_in_copy : Option PlainSnapshot → Option (List ℕ)
table_in_copy None = None
table_in_copy (Some x) = Some x.schema.table

-- what an actor of a job plans, until it has made its change
abbrev pub PlanCovers : Job → ℕ → Plan → (List ℕ → Bool) → List Live → Names PlainTable → Names Snapshot → Names PlainSnapshot → Type 0
PlanCovers (jobs.Create t families versions splits) a plan changed live tables snapshots copies = changed t ≡ false → AreNewRegions plan.regions
PlanCovers (jobs.Split t row) a plan changed live tables snapshots copies = (low high : RegionInfo) → plan.regions ≡ low ∷ high ∷ [] → Divides a low high live tables
PlanCovers (jobs.Clone name t) a plan changed live tables snapshots copies = changed t ≡ false → CopiesBounds name plan snapshots
PlanCovers (jobs.Restore name) a plan changed live tables snapshots copies = (t : List ℕ) → table_in_copy (get copies name) ≡ Some t → changed t ≡ false → CopiesBounds name plan snapshots
PlanCovers _ a plan changed live tables snapshots copies = Unit {0}

pub record PlansCover (plans : ℕ → Plan) (changed : ℕ → List ℕ → Bool) (live : List Live) (tables : Names PlainTable) (snapshots : Names Snapshot) (copies : Names PlainSnapshot) : Type 0 where
  pub at : (a : ℕ) (job : Job) → job_of live a ≡ Some job → PlanCovers job a (plans a) (changed a) live tables snapshots copies

-- the regions that a janitor is about to take out are split
pub record HeldAreSplit (changed : ℕ → List ℕ → Bool) (live : List Live) (tables : Names PlainTable) : Type 0 where
  pub at : (a : ℕ) (r : RegionKey) → job_of live a ≡ Some jobs.Janitor → HasHold live a (holds.Region r) → changed a r.table ≡ false → (i : RegionInfo) × (key_of i ≡ r) × IsListed tables i true

pub record IsCovered (s : Parts) : Type 0 where
  pub tables : TablesFit s.plain.tables
  pub snapshots : SnapshotsFit s.snapshots
  pub plans : PlansCover s.plans s.changed s.plain.live s.plain.tables s.snapshots s.plain.snapshots
  pub held : HeldAreSplit s.changed s.plain.live s.plain.tables

-- so it is in both states after a failed operation
pub record IsCoveredState (s : State) : Type 0 where
  pub now : IsCovered s.now
  pub other : IsCovered s.other

-- ---- limits, which follow from the guards of starts

-- a set of at most 1,000 regions, the open ones with ids of epochs up to 2 ^ 31 - 1
pub record IsSmall (set : RegionSet) : Type 0 where
  pub few : length set.regions ≤ 1000
  pub ids : AllByRecursion (λ (i : RegionInfo). i.id < 9_223_372_036_854_775_808) (open_of set.regions)

-- a set that is committed is within the limits of its table, and so are the families of a table that is made
abbrev pub HasLimits : Step → Type 0
HasLimits (step.CommitRegions actor table number name set (event.Create schema regions)) = IsSmall set × AreFamilies schema.families
HasLimits (step.CommitRegions actor table number name set change) = IsSmall set
HasLimits _ = Unit {0}

abbrev pub HaveLimits : List JournalEntry → Type 0
HaveLimits [] = Unit {0}
HaveLimits (e ∷ es) = HasLimits e.step × HaveLimits es

-- ---- laws

abbrev pub KeepsCovered : Step → Parts → Type 0
KeepsCovered p s = s.files ≤ 4_194_304 → HasLimits p → Allows p s → IsSound s → IsWritten s → IsFaithful s → IsCovered s → IsCovered (after p s)

abbrev pub LeadsToCovered : Opening → Tree → List JournalEntry → ℕ → Type 0
LeadsToCovered o tree es k = CanBegin o tree → HaveLimits es → AllowsAll o es → WriteFrom 0 (begun o) es → IsCoveredState (replay o (take k es))
