use Rattle.std.proofs.Common.{◌∙◌, None, ap}
use Rattle.reserved_map.specs.Values.{values_at}
use Rattle.reserved_map.proofs.Values.{found, written, absent}
use Rattle.reserved_map.proofs.places.empty_place.Goals as goal

pub returns-in-Some-clause-before : goal.returns-in-Some-clause-before
returns-in-Some-clause-before g c = c.replace.ensures.value ∙ found g.met.K.Ord.total _ _ _ c.in-Some.ensures.value

pub returns-in-Some-clause-values : goal.returns-in-Some-clause-values
returns-in-Some-clause-values g c = written g.met.K.Ord.total g.met.K.ExactKey.exact c.args.places.now (c.get_mut.follows.lender c.replace.new.dest) _ None _ _ c.in-Some.ensures.value c.replace.ensures.after (c.get_mut.follows.holds c.replace.new.dest)

pub returns-in-None-clause-before : goal.returns-in-None-clause-before
returns-in-None-clause-before g c = found g.met.K.Ord.total _ _ _ c.in-None.ensures.value

pub returns-in-None-clause-values : goal.returns-in-None-clause-values
returns-in-None-clause-values g c = ap (λ m. values_at g.K.Ord.cmp m.entries) c.get_mut.follows.holds-at-none ∙ absent g.met.K.Ord.total g.met.K.ExactKey.exact _ _ c.in-None.ensures.value
