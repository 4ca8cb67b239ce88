use Rattle.std.proofs.Common.{arith}
use Rattle.world_steps.proofs.Bare.{found_bare, opened_bare}
use Rattle.world_steps.proofs.tests.world.Goals as goal

pub begin-requires-clause-found : goal.begin-requires-clause-found
begin-requires-clause-found c = found_bare _ _ 1 300000 c.opening-opening.ensures c.nothing-found.ensures

pub begin-requires-clause-opened : goal.begin-requires-clause-opened
begin-requires-clause-opened c = opened_bare _ 1 300000 c.opening-opening.ensures (omega arith)
