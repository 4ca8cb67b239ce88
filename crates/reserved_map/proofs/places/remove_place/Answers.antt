use Rattle.std.proofs.Common.{◌∙◌, None, refl, ap}
use Rattle.reserved_map.specs.Values.{values_at}
use Rattle.reserved_map.proofs.Values.{found, values_at-with, absent}
use Rattle.reserved_map.proofs.places.remove_place.Goals as goal

pub returns-in-Some-clause-before : goal.returns-in-Some-clause-before
returns-in-Some-clause-before g c = found g.met.K.Ord.total _ _ _ c.in-Some.ensures.value

pub returns-in-Some-clause-values : goal.returns-in-Some-clause-values
returns-in-Some-clause-values g c = values_at-with g.met.K.Ord.total g.met.K.ExactKey.exact _ _ _ None None refl c.in-Some.ensures.updates.0

pub returns-in-None-clause-before : goal.returns-in-None-clause-before
returns-in-None-clause-before g c = found g.met.K.Ord.total _ _ _ c.in-None.ensures.value

pub returns-in-None-clause-values : goal.returns-in-None-clause-values
returns-in-None-clause-values g c = ap (values_at g.K.Ord.cmp) c.in-None.ensures.unchanged ∙ absent g.met.K.Ord.total g.met.K.ExactKey.exact _ _ c.in-None.ensures.value
