use Rattle.core_regions.proofs.Journals.{covered_replay}
use Rattle.core_regions.proofs.Kept.{covered_kept}
use Rattle.core_regions.proofs.laws.regions_stay_fit.Goals as goal

pub returns-clause-steps : goal.returns-clause-steps
returns-clause-steps c = covered_kept

pub returns-clause-journals : goal.returns-clause-journals
returns-clause-journals c = covered_replay
