use Rattle.std.proofs.Common.{◌≡◌}
use Rattle.std.specs.FinMap.{from_entries}
use Rattle.reserved_map.specs.Filled.{filled}
use Rattle.reserved_map.proofs.reserved_map.ReservedMap.from_pairs.Given as goal

-- the map of the pairs that were taken
abbrev pub invariant-loop-key : goal.invariant-loop-key
invariant-loop-key g l = filled g.K.Ord.cmp l.found ≡ from_entries l.yielded
