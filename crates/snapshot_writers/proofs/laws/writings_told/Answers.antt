use Rattle.snapshot_writers.proofs.WrittenLemmas.{reference_written, info_written, region_written}
use Rattle.snapshot_writers.proofs.laws.writings_told.Goals as goal

pub returns-clause-references : goal.returns-clause-references
returns-clause-references c = reference_written

pub returns-clause-infos : goal.returns-clause-infos
returns-clause-infos c = info_written

pub returns-clause-regions : goal.returns-clause-regions
returns-clause-regions c = region_written
