use Rattle.core_trees.proofs.Shown.{step_shown, journal_shown, bare_begins}
use Rattle.core_trees.proofs.laws.trees_show_their_states.Goals as goal

pub returns-clause-step : goal.returns-clause-step
returns-clause-step c = step_shown

pub returns-clause-journal : goal.returns-clause-journal
returns-clause-journal c = journal_shown

pub returns-clause-bare : goal.returns-clause-bare
returns-clause-bare c = bare_begins
