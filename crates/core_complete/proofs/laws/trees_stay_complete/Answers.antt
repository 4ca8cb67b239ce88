use Rattle.core_complete.proofs.Complete.{stays_complete}
use Rattle.core_complete.proofs.PlacedKept.{placed_kept}
use Rattle.core_complete.proofs.laws.trees_stay_complete.Goals as goal

pub returns-clause-steps : goal.returns-clause-steps
returns-clause-steps c = placed_kept

pub returns-clause-journals : goal.returns-clause-journals
returns-clause-journals c = stays_complete
