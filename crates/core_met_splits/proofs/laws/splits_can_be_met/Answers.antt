use Rattle.core_met_splits.proofs.Journal.{split_met}
use Rattle.core_met_splits.proofs.laws.splits_can_be_met.Goals as goal

pub returns : goal.returns
returns c = split_met
