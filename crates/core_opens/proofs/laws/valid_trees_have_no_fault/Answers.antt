use Rattle.core_opens.proofs.Faultless.{faultless}
use Rattle.core_opens.proofs.laws.valid_trees_have_no_fault.Goals as goal

pub returns : goal.returns
returns c = faultless
