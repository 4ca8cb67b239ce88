use Rattle.core_sites.proofs.Accepted.{accepted}
use Rattle.core_sites.proofs.laws.operations_are_accepted.Goals as goal

pub returns : goal.returns
returns c = accepted
