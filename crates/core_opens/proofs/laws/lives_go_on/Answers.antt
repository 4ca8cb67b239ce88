use Rattle.core_opens.proofs.Lives.{lives_go_on}
use Rattle.core_opens.proofs.laws.lives_go_on.Goals as goal

pub returns : goal.returns
returns c = lives_go_on
