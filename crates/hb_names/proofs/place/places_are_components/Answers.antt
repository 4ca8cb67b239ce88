use Rattle.hb_names.proofs.PlaceLemmas.{IsPlace-join_with_byte, components_of}
use Rattle.hb_names.proofs.place.places_are_components.Goals as goal

pub returns-clause-joined : goal.returns-clause-joined
returns-clause-joined c components are = IsPlace-join_with_byte components are.least are.most are.each

pub returns-clause-split : goal.returns-clause-split
returns-clause-split c place is = components_of place is
