use Rattle.core_cells.proofs.Journals.{cells_replay}
use Rattle.core_cells.proofs.Kept.{cells_kept}
use Rattle.core_cells.proofs.laws.cells_stay_fit.Goals as goal

pub returns-clause-steps : goal.returns-clause-steps
returns-clause-steps c = cells_kept

pub returns-clause-journals : goal.returns-clause-journals
returns-clause-journals c = cells_replay
