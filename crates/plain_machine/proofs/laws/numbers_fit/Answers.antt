use Rattle.plain_machine.proofs.Numbers.{numbers_fit}
use Rattle.plain_machine.proofs.laws.numbers_fit.Goals as goal

pub returns : goal.returns
returns c = numbers_fit
