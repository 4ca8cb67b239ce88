use Rattle.core_beside.proofs.Journals.{beside_replay}
use Rattle.core_beside.proofs.Kept.{beside_kept}
use Rattle.core_beside.proofs.laws.entries_stay_beside.Goals as goal

pub returns-clause-steps : goal.returns-clause-steps
returns-clause-steps c = beside_kept

pub returns-clause-journals : goal.returns-clause-journals
returns-clause-journals c = beside_replay
