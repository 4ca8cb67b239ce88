-- What an event makes of the completed snapshots.
use Rattle.std.specs.Prelude.{ℕ, List, [], ◌∷◌, Option, Some, None}
use Rattle.std.specs.FinMap.{get, insert, remove}
use Rattle.hb_records.specs.declared.region_info.RegionInfo.{RegionInfo}
use Rattle.plain_model.specs.declared.event.Event.{Event}
use Rattle.plain_model.specs.declared.event.Event.TheVariants.{Complete, Delete}
use Rattle.plain_model.specs.declared.job.Job.{Job}
use Rattle.plain_model.specs.declared.job.Job.TheVariants as jobs
use Rattle.plain_model.specs.declared.region_key.RegionKey.{RegionKey}
use Rattle.plain_model.specs.Names.{Names}
use Rattle.plain_model.specs.Keys.{key_of}
use Rattle.plain_model.specs.declared.parts.PlainTable.{PlainTable}
use Rattle.plain_model.specs.declared.parts.RegionCopy.{RegionCopy}
use Rattle.plain_model.specs.declared.parts.PlainSnapshot.{PlainSnapshot}
use Rattle.plain_model.specs.declared.parts.Live.{Live}
use Rattle.plain_model.specs.LiveEvents.{job_of}
use Rattle.plain_model.specs.Rows.{open_of}

-- a copy, where there is one, before others
abbrev pub with_capture : Option RegionCopy → List RegionCopy → List RegionCopy
with_capture None copies = copies
with_capture (Some c) copies = c ∷ copies

-- what was captured of some regions, in their order
abbrev pub captured : (RegionKey → Option RegionCopy) → List RegionInfo → List RegionCopy
captured captures [] = []
captured captures (r ∷ rs) = with_capture (captures (key_of r)) (captured captures rs)

-- the captures of a table under its schema are the snapshot of this name
abbrev pub with_snapshot : List ℕ → (RegionKey → Option RegionCopy) → Option PlainTable → Names PlainSnapshot → Names PlainSnapshot
with_snapshot name captures None snapshots = snapshots
with_snapshot name captures (Some t) snapshots = insert snapshots name (record { schema = t.schema; regions = captured captures (open_of t.regions) })

-- the snapshot that an actor of this job completes
abbrev pub completed : Option Job → (RegionKey → Option RegionCopy) → Names PlainTable → Names PlainSnapshot → Names PlainSnapshot
completed (Some (jobs.Snapshot t name)) captures tables snapshots = with_snapshot name captures (get tables t) snapshots
completed _ captures tables snapshots = snapshots

abbrev pub snapshots_on : Event → List Live → (ℕ → RegionKey → Option RegionCopy) → Names PlainTable → Names PlainSnapshot → Names PlainSnapshot
snapshots_on (Complete a) live captures tables snapshots = completed (job_of live a.0) (captures a.0) tables snapshots
snapshots_on (Delete name) live captures tables snapshots = remove snapshots name
snapshots_on _ live captures tables snapshots = snapshots
