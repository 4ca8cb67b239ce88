use Rattle.core_trees.proofs.Shown.{step_accepted, journal_accepted}
use Rattle.core_trees.proofs.laws.allowed_steps_are_accepted.Goals as goal

pub returns-clause-step : goal.returns-clause-step
returns-clause-step c = step_accepted

pub returns-clause-journal : goal.returns-clause-journal
returns-clause-journal c = journal_accepted
