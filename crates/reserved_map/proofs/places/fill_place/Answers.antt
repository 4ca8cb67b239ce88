use Rattle.std.proofs.Common.{◌∙◌, Some}
use Rattle.reserved_map.proofs.Values.{found, written}
use Rattle.reserved_map.proofs.places.fill_place.Goals as goal

pub returns-in-Some-clause-before : goal.returns-in-Some-clause-before
returns-in-Some-clause-before g c = c.replace.ensures.value ∙ found g.met.K.Ord.total _ _ _ c.in-Some.ensures.value

pub returns-in-Some-clause-values : goal.returns-in-Some-clause-values
returns-in-Some-clause-values g c = written g.met.K.Ord.total g.met.K.ExactKey.exact c.args.places.now (c.get_mut.follows.lender c.replace.new.dest) _ (Some c.args.value) _ _ c.in-Some.ensures.value c.replace.ensures.after (c.get_mut.follows.holds c.replace.new.dest)
