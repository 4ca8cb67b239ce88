use Rattle.core_recovers.proofs.OneReading.{one_told}
use Rattle.core_recovers.proofs.laws.trees_recover_one_state.Goals as goal

pub returns : goal.returns
returns c = one_told
