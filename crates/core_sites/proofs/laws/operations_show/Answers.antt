use Rattle.core_sites.proofs.Accepted.{accepted}
use Rattle.core_sites.proofs.Shown.{shows_by}
use Rattle.core_sites.proofs.laws.operations_show.Goals as goal

pub returns : goal.returns
returns c = λ o t d can h. shows_by o t d (accepted o t d can h) can.spelled can.works h
