use Rattle.snapshot_records.specs.declared.reference.Reference.{Reference}
use Rattle.snapshot_records.specs.Reference.{IsSplitRow, IsReference}
use Rattle.snapshot_records.specs.SnapshotInfo.{IsSnapshotInfo}
use Rattle.snapshot_records.specs.RegionInfo.{IsRegionInfo}
use Rattle.snapshot_records.specs.Manifest.{IsRegionManifest, IsManifest}
use Rattle.snapshot_records.proofs.Told.{OneValue-IsReference, OneValue-IsSnapshotInfo, OneValue-IsRegionInfo, OneValue-IsRegionManifest, OneValue-IsManifest}
use Rattle.snapshot_writers.specs.Written.{reference_bytes, info_bytes, region_bytes, IsWritableRegion}
use Rattle.snapshot_writers.proofs.WrittenLemmas.{reference_written, info_written, region_written}
use Rattle.manifest_writers.specs.Written.{region_manifest_bytes, manifest_bytes}
use Rattle.manifest_writers.specs.ReadBack.{HasInfoRecord, HasRegionRecord, HasManifestRecord}
use Rattle.manifest_writers.proofs.Records.{region_manifest_written, manifest_written}
use Rattle.manifest_writers.proofs.ReadBacks.{told_apart}
use Rattle.manifest_writers.proofs.laws.records_told_apart.Goals as goal

pub returns-clause-references : goal.returns-clause-references
returns-clause-references c = told_apart (λ (reference : Reference). IsSplitRow reference.row) reference_bytes IsReference OneValue-IsReference reference_written

pub returns-clause-infos : goal.returns-clause-infos
returns-clause-infos c = told_apart HasInfoRecord info_bytes IsSnapshotInfo OneValue-IsSnapshotInfo (λ info is. info_written info is.name is.table is.created)

pub returns-clause-regions : goal.returns-clause-regions
returns-clause-regions c = told_apart IsWritableRegion region_bytes IsRegionInfo OneValue-IsRegionInfo region_written

pub returns-clause-region_manifests : goal.returns-clause-region_manifests
returns-clause-region_manifests c = told_apart HasRegionRecord region_manifest_bytes IsRegionManifest OneValue-IsRegionManifest (λ region is. region_manifest_written region is.writable is.short)

pub returns-clause-manifests : goal.returns-clause-manifests
returns-clause-manifests c = told_apart HasManifestRecord manifest_bytes IsManifest OneValue-IsManifest (λ manifest is. manifest_written manifest is.writable is.short)
