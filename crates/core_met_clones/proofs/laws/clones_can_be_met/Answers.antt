use Rattle.core_met_clones.proofs.Journal.{clone_met}
use Rattle.core_met_clones.proofs.laws.clones_can_be_met.Goals as goal

pub returns : goal.returns
returns c = clone_met
