use Rattle.core_contents.proofs.LawFacts.{joins}
use Rattle.core_contents.proofs.laws.groups_join_at_once.Goals as goal

pub returns : goal.returns
returns c = joins
