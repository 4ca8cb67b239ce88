use Rattle.ns_tree.proofs.CallLaws.{get-step-elsewhere}
use Rattle.ns_tree.proofs.laws.calls_change_what_they_reach.Goals as goal

pub returns : goal.returns
returns c = get-step-elsewhere
