use Rattle.core_met_cleaning.proofs.Journal.{deletion_met}
use Rattle.core_met_cleaning.proofs.laws.deletions_can_be_met.Goals as goal

pub returns : goal.returns
returns c = deletion_met
