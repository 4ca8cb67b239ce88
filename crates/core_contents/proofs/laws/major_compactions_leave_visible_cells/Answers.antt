use Rattle.core_contents.proofs.LawFacts.{leaves_visible}
use Rattle.core_contents.proofs.laws.major_compactions_leave_visible_cells.Goals as goal

pub returns : goal.returns
returns c = leaves_visible
