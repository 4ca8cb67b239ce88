use Rattle.core_met_trees.proofs.Making.{table_made}
use Rattle.core_met_trees.proofs.laws.made_tables_leave_valid_trees.Goals as goal

pub returns : goal.returns
returns c = table_made
