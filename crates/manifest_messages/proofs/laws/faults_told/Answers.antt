use Rattle.manifest_messages.proofs.Told.{Excludes-IsManifest, Excludes-IsRegionManifest}
use Rattle.manifest_messages.proofs.laws.faults_told.Goals as goal

pub returns-clause-manifests : goal.returns-clause-manifests
returns-clause-manifests c = Excludes-IsManifest

pub returns-clause-regions : goal.returns-clause-regions
returns-clause-regions c = Excludes-IsRegionManifest
