use Rattle.core_met.proofs.Journal.{flush_met}
use Rattle.core_met.proofs.laws.flushes_can_be_met.Goals as goal

pub returns : goal.returns
returns c = flush_met
