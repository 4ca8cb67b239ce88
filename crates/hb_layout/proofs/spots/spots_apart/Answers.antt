use Rattle.hb_layout.proofs.LawfulLemmas.{IsPlace-place_text, place_text-injective}
use Rattle.hb_layout.proofs.spots.spots_apart.Goals as goal

pub returns-clause-places : goal.returns-clause-places
returns-clause-places c = IsPlace-place_text

pub returns-clause-apart : goal.returns-clause-apart
returns-clause-apart c = place_text-injective

pub returns-clause-lawful : goal.returns-clause-lawful
returns-clause-lawful c p q h k e = place_text-injective p q h.0 k.0 e
