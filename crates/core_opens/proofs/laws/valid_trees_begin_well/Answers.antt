use Rattle.core_opens.proofs.Bare.{bare_begins}
use Rattle.core_opens.proofs.Opens.{begins_valid}
use Rattle.core_opens.proofs.laws.valid_trees_begin_well.Goals as goal

pub returns-clause-trees : goal.returns-clause-trees
returns-clause-trees c = begins_valid

pub returns-clause-bare : goal.returns-clause-bare
returns-clause-bare c = bare_begins
