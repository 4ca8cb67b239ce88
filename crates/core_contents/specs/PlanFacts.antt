-- What is planned is exactly what the plain machine will make: a split's halves of the parent's whole list, a copy's links of
-- the snapshot's regions, one by one.
use Rattle.std.specs.Prelude.{◌≡◌, ◌≢◌, ℕ, true, false, List, [], ◌∷◌, map, Option, Some}
use Rattle.std.specs.List.{AllZip, AllByRecursion}
use Rattle.std.specs.FinMap.{get}
use Rattle.hb_records.specs.declared.region_info.RegionInfo.{RegionInfo}
use Rattle.plain_model.specs.declared.hold.Hold.TheVariants as holds
use Rattle.plain_model.specs.declared.job.Job.{Job}
use Rattle.plain_model.specs.declared.job.Job.TheVariants as jobs
use Rattle.plain_model.specs.declared.parts.Live.{Live}
use Rattle.plain_model.specs.declared.parts.PlainTable.{PlainTable}
use Rattle.plain_model.specs.declared.region_key.RegionKey.{RegionKey}
use Rattle.plain_model.specs.Keys.{key_of, encoded}
use Rattle.plain_model.specs.LiveEvents.{job_of}
use Rattle.plain_model.specs.Names.{Names}
use Rattle.core_model.specs.declared.plan.Plan.{Plan}
use Rattle.core_model.specs.declared.region_files.RegionFiles.{RegionFiles}
use Rattle.core_model.specs.declared.snapshot.CopiedRegion.{CopiedRegion}
use Rattle.core_model.specs.declared.snapshot.Snapshot.{Snapshot}
use Rattle.core_model.specs.Actors.{HasHold, IsRegion}
use Rattle.core_model.specs.Entries.{is_half}
use Rattle.core_model.specs.Plans.{half_of, copy_of, planned_for}

-- the regions of a split, with the halves of each entry of the parent, none of which is a half itself
pub record SplitPlan (plan : Plan) (parent : RegionKey) (row : List ℕ) (list : RegionFiles) : Type 0 where
  pub low : RegionInfo
  pub high : RegionInfo
  pub regions : plan.regions ≡ low ∷ high ∷ []
  pub differ : encoded low ≢ encoded high
  pub border : high.start ≡ row
  pub whole : AllByRecursion (λ e. is_half e ≡ false) list.entries
  pub low_entries : planned_for plan.entries (key_of low) ≡ map (half_of parent.region row false) list.entries
  pub high_entries : planned_for plan.entries (key_of high) ≡ map (half_of parent.region row true) list.entries

-- the one region that a split holds, which is there, and the halves that it plans of it
pub record Splits (a : ℕ) (plan : Plan) (row : List ℕ) (live : List Live) (tables : Names PlainTable) (lists : RegionKey → RegionFiles) : Type 0 where
  pub parent : RegionKey
  pub held : HasHold live a (holds.Region parent)
  pub alone : (r : RegionKey) → HasHold live a (holds.Region r) → r ≡ parent
  pub there : IsRegion tables parent
  pub halves : SplitPlan plan parent row (lists parent)

-- a region that copies another's entries
pub record CopyPlan (plan : Plan) (i : RegionInfo) (r : CopiedRegion) : Type 0 where
  pub entries : planned_for plan.entries (key_of i) ≡ map copy_of r.entries

-- what an actor of a job plans, until its plan is freed
abbrev pub IsPlan : Option Job → ℕ → Plan → List Live → Names PlainTable → Names Snapshot → (RegionKey → RegionFiles) → Type 0
IsPlan (Some (jobs.Create t families versions splits)) a plan live tables snapshots lists = plan.entries ≡ []
IsPlan (Some (jobs.Split t row)) a plan live tables snapshots lists = Splits a plan row live tables lists
IsPlan (Some (jobs.Clone name t)) a plan live tables snapshots lists = (x : Snapshot) → get snapshots name ≡ Some x → AllZip (CopyPlan plan) plan.regions x.regions
IsPlan (Some (jobs.Restore name)) a plan live tables snapshots lists = (x : Snapshot) → get snapshots name ≡ Some x → AllZip (CopyPlan plan) plan.regions x.regions
IsPlan _ a plan live tables snapshots lists = Unit {0}

pub record PlansExact (plans : ℕ → Plan) (live : List Live) (tables : Names PlainTable) (snapshots : Names Snapshot) (lists : RegionKey → RegionFiles) : Type 0 where
  pub at : (a : ℕ) → (plans a).regions ≢ [] → IsPlan (job_of live a) a (plans a) live tables snapshots lists
