-- What the files of a snapshot say: its description, and what it holds.
use Rattle.std.specs.Prelude.{◌≡◌, ℕ, ◌||◌, Bool, true, false, List, map, Option, Some, None, is_some}
use Rattle.std.specs.FinMap.{get}
use Rattle.std.specs.List.{filter, AllZip, AllByRecursion}
use Rattle.hb_cell.specs.Order.{same_bytes}
use Rattle.ns_tree.specs.declared.file.FileState.{FileState}
use Rattle.plain_model.specs.declared.hold.Hold.TheVariants as holds
use Rattle.plain_model.specs.declared.region_key.RegionKey.{RegionKey}
use Rattle.plain_model.specs.Found.{open_keys}
use Rattle.plain_model.specs.Names.{Names}
use Rattle.plain_model.specs.Plain.{Plain}
use Rattle.snapshot_records.specs.declared.manifest.Manifest.{Manifest}
use Rattle.snapshot_records.specs.declared.manifest.RegionManifest.{RegionManifest}
use Rattle.snapshot_records.specs.declared.reference.Reference.{Reference}
use Rattle.snapshot_records.specs.declared.snapshot_info.SnapshotInfo.{SnapshotInfo}
use Rattle.snapshot_records.specs.Manifest.{IsManifest}
use Rattle.snapshot_records.specs.SnapshotInfo.{IsSnapshotInfo}
use Rattle.core_model.specs.declared.entry.Entry.{Entry}
use Rattle.core_model.specs.declared.entry.Entry.TheVariants.{Own, Link, Half}
use Rattle.core_model.specs.declared.region_files.RegionFiles.{RegionFiles}
use Rattle.core_model.specs.declared.snapshot.CopiedRegion.{CopiedRegion}
use Rattle.core_model.specs.declared.snapshot.Snapshot.{Snapshot}
use Rattle.core_model.specs.declared.step.Step.{Step}
use Rattle.core_model.specs.declared.step.Step.TheVariants as step
use Rattle.core_model.specs.declared.targets.ManifestPart.TheVariants as parts
use Rattle.core_model.specs.Actors.{HasHold}
use Rattle.core_model.specs.Entries.{base_of, entry_name}
use Rattle.core_model.specs.SnapshotGuards.{snapshot_of}
use Rattle.core_model.specs.State.{Parts, Parted}

-- the bytes are the description of a snapshot of this name, of this table
pub record IsInfoOf (bytes name table : List ℕ) : Type 0 where
  pub description : SnapshotInfo
  pub message : IsSnapshotInfo bytes description
  pub of_name : description.name ≡ name
  pub of_table : description.table ≡ table

-- the half that an entry is, if it is one
abbrev pub half_in : Entry → Option Reference
half_in (Own base) = None
half_in (Link base) = None
half_in (Half base linked parent row top) = Some (record { row = row; top = top })

-- the names and halves of a family's files, in a manifest and in a list
abbrev pub files_in : List ℕ → List (List ℕ × List ℕ × Option Reference × ℕ) → List (List ℕ × Option Reference)
files_in family files = map (λ (x : List ℕ × List ℕ × Option Reference × ℕ). (x.1, x.2)) (filter (λ (x : List ℕ × List ℕ × Option Reference × ℕ). same_bytes x.0 family) files)

abbrev pub entries_in : List ℕ → List Entry → List (List ℕ × Option Reference)
entries_in family entries = map (λ e. (entry_name e, half_in e)) (filter (λ e. same_bytes (base_of e).family family) entries)

-- a region of a manifest is a region as it was copied; of the sizes of its files nothing is said
pub record IsRegionOf (m : RegionManifest) (r : CopiedRegion) : Type 0 where
  pub region : m.info ≡ r.info
  pub number : m.seq ≡ r.seq
  pub files : (family : List ℕ) → files_in family m.files ≡ entries_in family r.entries

-- the bytes are the manifest of a snapshot
pub record IsManifestOf (bytes : List ℕ) (x : Snapshot) : Type 0 where
  pub manifest : Manifest
  pub message : IsManifest bytes manifest
  pub of_schema : manifest.schema ≡ x.schema
  pub of_regions : AllZip IsRegionOf manifest.regions x.regions

-- a step that writes a part of a manifest writes the record of what its actor captured
abbrev pub WritesPart : Step → Parts → Type 0
WritesPart (step.Manifest actor parts.Info snapshot moment bytes) s = (table : List ℕ) → HasHold s.plain.live actor.0 (holds.Take snapshot table) → IsInfoOf bytes snapshot table
WritesPart (step.Manifest actor parts.Data snapshot moment bytes) s =
    (table : List ℕ) → HasHold s.plain.live actor.0 (holds.Take snapshot table) → IsManifestOf bytes (snapshot_of (s.captures actor.0) table s.plain)
WritesPart _ s = Unit {0}

-- whether an actor has written a part of a manifest
abbrev pub any_part : Parted → Bool
any_part p = p.info || p.manifest

-- the parts that an actor wrote are the record of what it captured: each open region of the table, and it has not completed
-- the snapshot
pub record HasParts (infos manifests : List ℕ → Option FileState) (parted : ℕ → Parted) (captures : ℕ → RegionKey → Option RegionFiles) (p : Plain) : Type 0 where
  pub info : (a : ℕ) (name table : List ℕ) (f : FileState) → HasHold p.live a (holds.Take name table) → (parted a).info ≡ true → infos name ≡ Some f → IsInfoOf f.bytes name table
  pub manifest : (a : ℕ) (name table : List ℕ) (f : FileState) → HasHold p.live a (holds.Take name table) → (parted a).manifest ≡ true → manifests name ≡ Some f
      → IsManifestOf f.bytes (snapshot_of (captures a) table p)
  pub captured : (a : ℕ) (name table : List ℕ) → HasHold p.live a (holds.Take name table) → any_part (parted a) ≡ true → AllByRecursion (λ r. is_some (captures a r) ≡ true) (open_keys p table)
  pub undone : (a : ℕ) → any_part (parted a) ≡ true → (parted a).done ≡ false

-- the files of a complete snapshot say what it holds
pub record HasManifests (infos manifests : List ℕ → Option FileState) (snapshots : Names Snapshot) : Type 0 where
  pub at : (name : List ℕ) (x : Snapshot) (f g : FileState) → get snapshots name ≡ Some x → infos name ≡ Some f → manifests name ≡ Some g → IsInfoOf f.bytes name x.schema.table × IsManifestOf g.bytes x
