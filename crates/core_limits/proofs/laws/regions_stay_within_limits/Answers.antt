use Rattle.core_limits.proofs.Journals.{limits_replay}
use Rattle.core_limits.proofs.Kept.{limited_kept}
use Rattle.core_limits.proofs.laws.regions_stay_within_limits.Goals as goal

pub returns-clause-steps : goal.returns-clause-steps
returns-clause-steps c = limited_kept

pub returns-clause-journals : goal.returns-clause-journals
returns-clause-journals c = limits_replay
