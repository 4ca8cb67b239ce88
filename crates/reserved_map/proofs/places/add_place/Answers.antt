use Rattle.std.proofs.Common.{sym}
use Rattle.reserved_map.proofs.Values.{vacant}
use Rattle.reserved_map.proofs.places.add_place.Goals as goal

pub returns-in-Ok-clause-values : goal.returns-in-Ok-clause-values
returns-in-Ok-clause-values g c = vacant g.met.K.Ord.total g.met.K.ExactKey.exact _ _ _ (sym c.requires) c.in-Ok.ensures.updates.0
