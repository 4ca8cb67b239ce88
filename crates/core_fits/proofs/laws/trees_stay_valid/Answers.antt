use Rattle.core_fits.proofs.Valid.{stays_valid}
use Rattle.core_fits.proofs.laws.trees_stay_valid.Goals as goal

pub returns : goal.returns
returns c = stays_valid
