-- When a region may be captured, a manifest written, and a snapshot completed or taken back.
use Rattle.std.specs.Prelude.{◌≡◌, ℕ, Bool, true, false, List, Option, Some, None, is_some, option_map}
use Rattle.std.specs.List.{filter_map, AllByRecursion}
use Rattle.std.specs.FinMap.{get}
use Rattle.core_model.specs.Site.{Site, WorkInfo, WorkManifest}
use Rattle.hb_records.specs.declared.region_info.RegionInfo.{RegionInfo}
use Rattle.ns_tree.specs.declared.file.FileState.{FileState}
use Rattle.plain_model.specs.declared.hold.Hold.TheVariants as holds
use Rattle.plain_model.specs.declared.region_key.RegionKey.{RegionKey}
use Rattle.plain_model.specs.Found.{open_in, open_keys, families_of}
use Rattle.plain_model.specs.Keys.{key_of}
use Rattle.plain_model.specs.Plain.{Plain}
use Rattle.core_model.specs.declared.region_files.RegionFiles.{RegionFiles}
use Rattle.core_model.specs.declared.snapshot.CopiedRegion.{CopiedRegion}
use Rattle.core_model.specs.declared.snapshot.Snapshot.{Snapshot}
use Rattle.core_model.specs.declared.targets.ManifestPart.{ManifestPart}
use Rattle.core_model.specs.declared.targets.ManifestPart.TheVariants as parts
use Rattle.core_model.specs.Actors.{HasHold, InSet}
use Rattle.core_model.specs.State.{Parts}

pub record CanCapture (a : ℕ) (r : RegionKey) (s : Parts) : Type 0 where
  pub snapshot : List ℕ
  pub take : HasHold s.plain.live a (holds.Take snapshot r.table)
  pub is_open : InSet s.plain.tables r false
  pub new : s.captures a r ≡ None
  pub unfrozen : s.plain.frozen r ≡ 0

-- what an actor has captured of a table's open regions
abbrev pub copied : (RegionKey → Option RegionFiles) → RegionInfo → Option CopiedRegion
copied captures i = option_map (λ (l : RegionFiles). record { info = i; seq = l.seq; entries = l.entries }) (captures (key_of i))

abbrev pub snapshot_of : (RegionKey → Option RegionFiles) → List ℕ → Plain → Snapshot
snapshot_of captures t p = record { schema = record { table = t; families = families_of p t }; regions = filter_map (copied captures) (open_in p t) }

-- every open region of the table is captured
abbrev pub AllCaptured : ℕ → List ℕ → Parts → Type 0
AllCaptured a t s = AllByRecursion (λ r. is_some (s.captures a r) ≡ true) (open_keys s.plain t)

-- where a part of a manifest stands while it is made, and its bytes
abbrev pub work_site : List ℕ → ManifestPart → Site
work_site name parts.Info = WorkInfo name
work_site name parts.Data = WorkManifest name

abbrev pub is_info : ManifestPart → Bool
is_info parts.Info = true
is_info parts.Data = false

pub record CanManifest (a : ℕ) (part : ManifestPart) (name : List ℕ) (moment : Option ℕ) (s : Parts) : Type 0 where
  pub table : List ℕ
  pub take : HasHold s.plain.live a (holds.Take name table)
  pub captured : AllCaptured a table s
  -- a snapshot that is complete gets no other parts
  pub undone : (s.parted a).done ≡ false
  pub new : s.disk (work_site name part) ≡ None
  pub asked : is_some moment ≡ is_info part

pub record CanComplete (a : ℕ) (name : List ℕ) (snapshot : Snapshot) (s : Parts) : Type 0 where
  pub table : List ℕ
  pub take : HasHold s.plain.live a (holds.Take name table)
  pub missing : get s.snapshots name ≡ None
  pub wrote_info : (s.parted a).info ≡ true
  pub wrote_manifest : (s.parted a).manifest ≡ true
  pub info : FileState
  pub info_stands : s.disk (WorkInfo name) ≡ Some info
  pub manifest : FileState
  pub manifest_stands : s.disk (WorkManifest name) ≡ Some manifest
  pub copied : snapshot ≡ snapshot_of (s.captures a) table s.plain

pub record CanUncomplete (a : ℕ) (name : List ℕ) (s : Parts) : Type 0 where
  pub erase : HasHold s.plain.live a (holds.Erase name)
  pub snapshot : Snapshot
  pub stands : get s.snapshots name ≡ Some snapshot
  -- the working directory is empty
  pub no_info : s.disk (WorkInfo name) ≡ None
  pub no_manifest : s.disk (WorkManifest name) ≡ None
