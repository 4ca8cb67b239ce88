use Rattle.core_sound.proofs.NeverAgain.{never_again}
use Rattle.core_sound.proofs.Unnamed.{stays_unnamed_in}
use Rattle.core_sound.proofs.laws.unnamed_bases_stay_unnamed.Goals as goal

pub returns-clause-step : goal.returns-clause-step
returns-clause-step c = λ p s b a h f. never_again p s a h b f

pub returns-clause-journal : goal.returns-clause-journal
returns-clause-journal c = stays_unnamed_in
