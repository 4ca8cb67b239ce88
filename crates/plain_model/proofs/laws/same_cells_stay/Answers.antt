use Rattle.plain_model.proofs.PlainLaws.{same_stay, same_compacted}
use Rattle.plain_model.proofs.laws.same_cells_stay.Goals as goal

pub returns-clause-lists : goal.returns-clause-lists
returns-clause-lists c = same_stay

pub returns-clause-compacted : goal.returns-clause-compacted
returns-clause-compacted c = same_compacted
