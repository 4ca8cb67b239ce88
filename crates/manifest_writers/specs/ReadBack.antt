-- Reading what was written gives the value, and two values are written differently.
use Rattle.std.specs.Prelude.{◌≡◌, ◌<◌, ◌^◌, ℕ, List, length}
use Rattle.field_reader.specs.declared.fault.RecordError.{RecordError}
use Rattle.field_reader.specs.declared.fault.RecordError.TheVariants.{NoMemory}
use Rattle.hb_names.specs.SnapName.{IsSnapName}
use Rattle.hb_names.specs.TableName.{IsTableName}
use Rattle.hb_records.specs.declared.region_info.RegionInfo.{RegionInfo}
use Rattle.snapshot_records.specs.declared.reference.Reference.{Reference}
use Rattle.snapshot_records.specs.declared.snapshot_info.SnapshotInfo.{SnapshotInfo}
use Rattle.snapshot_records.specs.declared.manifest.RegionManifest.{RegionManifest}
use Rattle.snapshot_records.specs.declared.manifest.Manifest.{Manifest}
use Rattle.snapshot_records.specs.Reference.{IsSplitRow, IsReference}
use Rattle.snapshot_records.specs.SnapshotInfo.{IsSnapshotInfo}
use Rattle.snapshot_records.specs.RegionInfo.{IsRegionInfo}
use Rattle.snapshot_records.specs.Manifest.{IsRegionManifest, IsManifest}
use Rattle.snapshot_messages.specs.Faults.{IsReferenceFault, IsSnapshotInfoFault, IsRegionInfoFault}
use Rattle.manifest_messages.specs.Faults.{IsRegionManifestFault, IsManifestFault}
use Rattle.snapshot_writers.specs.Written.{reference_bytes, info_bytes, region_bytes, IsWritableRegion}
use Rattle.manifest_writers.specs.Written.{region_manifest_bytes, manifest_bytes}
use Rattle.manifest_writers.specs.Writable.{IsWritableRegionManifest, IsWritableManifest}

-- a reader of the bytes answers this value and no other, or that memory is wanting
pub record IsReadAs {V : Type 0} (spells : List ℕ → V → Type 0) (fault : List ℕ → RecordError → Type 0) (bytes : List ℕ) (v : V) : Type 0 where
  pub found : (w : V) → spells bytes w → w ≡ v
  pub no_fault : (e : RecordError) → fault bytes e → e ≡ NoMemory

-- the values that have a record, and of which the number of bytes has 64 bits
pub record HasInfoRecord (info : SnapshotInfo) : Type 0 where
  pub name : IsSnapName info.name
  pub table : IsTableName info.table
  pub created : info.created < 2 ^ 64

pub record HasRegionRecord (region : RegionManifest) : Type 0 where
  pub writable : IsWritableRegionManifest region
  pub short : length (region_manifest_bytes region) < 2 ^ 64

pub record HasManifestRecord (manifest : Manifest) : Type 0 where
  pub writable : IsWritableManifest manifest
  pub short : length (manifest_bytes manifest) < 2 ^ 64

-- what is written of each such value is read as that value
abbrev pub AreReadBack : {V : Type 0} → (V → Type 0) → (V → List ℕ) → (List ℕ → V → Type 0) → (List ℕ → RecordError → Type 0) → Type 0
AreReadBack {V} has bytes spells fault = (v : V) → has v → IsReadAs spells fault (bytes v) v

abbrev pub ReferencesAreReadBack : Type 0
ReferencesAreReadBack = AreReadBack (λ (reference : Reference). IsSplitRow reference.row) reference_bytes IsReference IsReferenceFault

abbrev pub InfosAreReadBack : Type 0
InfosAreReadBack = AreReadBack HasInfoRecord info_bytes IsSnapshotInfo IsSnapshotInfoFault

abbrev pub RegionsAreReadBack : Type 0
RegionsAreReadBack = AreReadBack IsWritableRegion region_bytes IsRegionInfo (λ bytes. IsRegionInfoFault bytes 0)

abbrev pub RegionManifestsAreReadBack : Type 0
RegionManifestsAreReadBack = AreReadBack HasRegionRecord region_manifest_bytes IsRegionManifest (λ bytes. IsRegionManifestFault bytes 0)

abbrev pub ManifestsAreReadBack : Type 0
ManifestsAreReadBack = AreReadBack HasManifestRecord manifest_bytes IsManifest IsManifestFault

-- two of the values are written alike only where they are one
abbrev pub AreToldApart : {V : Type 0} → (V → Type 0) → (V → List ℕ) → Type 0
AreToldApart {V} has bytes = (v w : V) → has v → has w → bytes v ≡ bytes w → v ≡ w
