use Rattle.core_trees.proofs.FiledKept.{filed_kept}
use Rattle.core_trees.proofs.Shown.{filed_replay}
use Rattle.core_trees.proofs.laws.newest_files_are_known.Goals as goal

pub returns-clause-steps : goal.returns-clause-steps
returns-clause-steps c = filed_kept

pub returns-clause-journals : goal.returns-clause-journals
returns-clause-journals c = filed_replay
