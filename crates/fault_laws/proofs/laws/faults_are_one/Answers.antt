use Rattle.fault_laws.proofs.Messages.{HasOne-IsReferenceFault, HasOne-IsSnapshotInfoFault, HasOne-IsRegionInfoFault}
use Rattle.fault_laws.proofs.laws.faults_are_one.Goals as goal

pub returns-clause-references : goal.returns-clause-references
returns-clause-references c = HasOne-IsReferenceFault

pub returns-clause-infos : goal.returns-clause-infos
returns-clause-infos c = HasOne-IsSnapshotInfoFault

pub returns-clause-regions : goal.returns-clause-regions
returns-clause-regions c = HasOne-IsRegionInfoFault
