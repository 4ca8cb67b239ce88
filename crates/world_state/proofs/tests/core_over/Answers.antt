use Rattle.world_state.proofs.Trial.{all_found}
use Rattle.world_state.proofs.tests.core_over.Goals as goal

pub new-requires-5 : goal.new-requires-5
new-requires-5 c = all_found _ _ c.opening-opening.ensures.found c.opening-opening.ensures.tree c.requires
