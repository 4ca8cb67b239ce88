use Rattle.cell_sight.proofs.ShownExactly.{shows_exactly, ascends}
use Rattle.cell_sight.proofs.laws.shows_exactly.Goals as goal

pub returns-clause-exact : goal.returns-clause-exact
returns-clause-exact c = shows_exactly

pub returns-clause-ascending : goal.returns-clause-ascending
returns-clause-ascending c = ascends
