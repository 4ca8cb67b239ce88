use Rattle.std.proofs.Common.{◌∙◌, Some, None, sym, ap, is_some}
use Rattle.reserved_map.proofs.Values.{released, found}
use Rattle.reserved_map.proofs.places.drop_vacant.Goals as goal

pub returns-in-Some-None-clause-values : goal.returns-in-Some-None-clause-values
returns-in-Some-None-clause-values g c = released g.met.K.Ord.total g.met.K.ExactKey.exact _ _ _ (rw c.in-Some-None.field-0-is at c.in-Some-None.ensures.value) c.remove.ensures.updates.0

pub returns-in-Some-None-clause-back : goal.returns-in-Some-None-clause-back
returns-in-Some-None-clause-back g c =
    ap is_some c.remove.ensures.updates.1 ∙ ap is_some (found g.met.K.Ord.total _ _ (Some None) (rw c.in-Some-None.field-0-is at c.in-Some-None.ensures.value))

pub returns-in-Some-Some-clause-back : goal.returns-in-Some-Some-clause-back
returns-in-Some-Some-clause-back g c =
    let stands = rw c.in-Some-Some.field-0-is at c.in-Some-Some.ensures.value in
    ap is_some (sym stands) ∙ ap is_some (found g.met.K.Ord.total _ _ _ stands)

pub returns-in-None-clause-back : goal.returns-in-None-clause-back
returns-in-None-clause-back g c = ap is_some (sym c.in-None.ensures.value) ∙ ap is_some (found g.met.K.Ord.total _ _ None c.in-None.ensures.value)
