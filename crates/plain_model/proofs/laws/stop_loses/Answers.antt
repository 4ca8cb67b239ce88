use Rattle.plain_model.proofs.PlainLaws.{stops_alike}
use Rattle.plain_model.proofs.laws.stop_loses.Goals as goal

pub returns : goal.returns
returns c = stops_alike
