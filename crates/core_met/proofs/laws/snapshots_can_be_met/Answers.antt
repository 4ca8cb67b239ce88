use Rattle.core_met.proofs.Journal.{shot_met}
use Rattle.core_met.proofs.laws.snapshots_can_be_met.Goals as goal

pub returns : goal.returns
returns c = shot_met
