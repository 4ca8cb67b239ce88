use Rattle.std.proofs.Common.{◌∙◌}
use Rattle.world_state.proofs.Trial.{first_listed}
use Rattle.world_state.proofs.tests.list.Goals as goal

pub apply-requires-clause-allowed : goal.apply-requires-clause-allowed
apply-requires-clause-allowed c = first_listed c.prepare.new.self (record { worker = 3; line = 1 }) (c.prepare.ensures.entries ∙ c.requires)
