use Rattle.core_met_loads.proofs.Journal.{load_met}
use Rattle.core_met_loads.proofs.laws.loads_can_be_met.Goals as goal

pub returns : goal.returns
returns c = load_met
