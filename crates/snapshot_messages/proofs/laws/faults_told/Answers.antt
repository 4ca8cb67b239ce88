use Rattle.snapshot_messages.proofs.Told.{Excludes-IsReference, Excludes-IsSnapshotInfo, Excludes-IsRegionInfo}
use Rattle.snapshot_messages.proofs.laws.faults_told.Goals as goal

pub returns-clause-references : goal.returns-clause-references
returns-clause-references c = Excludes-IsReference

pub returns-clause-infos : goal.returns-clause-infos
returns-clause-infos c = Excludes-IsSnapshotInfo

pub returns-clause-regions : goal.returns-clause-regions
returns-clause-regions c = Excludes-IsRegionInfo
