use Rattle.manifest_writers.proofs.Records.{region_manifest_written, manifest_written}
use Rattle.manifest_writers.proofs.laws.manifests_written.Goals as goal

pub returns-clause-regions : goal.returns-clause-regions
returns-clause-regions c = region_manifest_written

pub returns-clause-manifests : goal.returns-clause-manifests
returns-clause-manifests c = manifest_written
