use Rattle.core_contents.proofs.LawFacts.{quiet}
use Rattle.core_contents.proofs.laws.upkeep_changes_no_cells.Goals as goal

pub returns : goal.returns
returns c = quiet
