use Rattle.ns_tree.proofs.CallLaws.{refusal-step, step-step}
use Rattle.ns_tree.proofs.laws.calls_apart_commute.Goals as goal

pub returns-clause-refused : goal.returns-clause-refused
returns-clause-refused c = refusal-step

pub returns-clause-commute : goal.returns-clause-commute
returns-clause-commute c = step-step
