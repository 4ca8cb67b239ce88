use Rattle.snapshot_records.proofs.Told.{OneValue-IsReference, OneValue-IsSnapshotInfo, OneValue-IsRegionInfo, OneValue-IsManifest}
use Rattle.snapshot_records.proofs.laws.records_told.Goals as goal

pub returns-clause-references : goal.returns-clause-references
returns-clause-references c = OneValue-IsReference

pub returns-clause-infos : goal.returns-clause-infos
returns-clause-infos c = OneValue-IsSnapshotInfo

pub returns-clause-regions : goal.returns-clause-regions
returns-clause-regions c = OneValue-IsRegionInfo

pub returns-clause-manifests : goal.returns-clause-manifests
returns-clause-manifests c = OneValue-IsManifest
