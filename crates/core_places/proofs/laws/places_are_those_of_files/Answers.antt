use Rattle.core_places.proofs.Kept.{places_kept}
use Rattle.core_places.proofs.Region.{region_told}
use Rattle.core_places.proofs.Shown.{places_shown}
use Rattle.core_places.proofs.laws.places_are_those_of_files.Goals as goal

pub returns-clause-kept : goal.returns-clause-kept
returns-clause-kept c = places_kept

pub returns-clause-region : goal.returns-clause-region
returns-clause-region c = region_told

pub returns-clause-shown : goal.returns-clause-shown
returns-clause-shown c = places_shown
