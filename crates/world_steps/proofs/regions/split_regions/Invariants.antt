use Rattle.std.proofs.Common.{◌≡◌, ◌++◌, [], drop}
use Rattle.core_model.specs.Plans.{split_regions}
use Rattle.world_steps.proofs.regions.split_regions.Given as goal

abbrev pub invariant-loop-row : goal.invariant-loop-row
invariant-loop-row l = l.regions.items ++ split_regions l.table l.next l.start (drop l.row-index l.splits) ≡ split_regions l.table l.id [] l.splits
