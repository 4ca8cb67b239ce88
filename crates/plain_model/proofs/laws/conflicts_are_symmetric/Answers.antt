use Rattle.plain_model.proofs.PlainLaws.{symmetric}
use Rattle.plain_model.proofs.laws.conflicts_are_symmetric.Goals as goal

pub returns-clause-symmetric : goal.returns-clause-symmetric
returns-clause-symmetric c = symmetric
