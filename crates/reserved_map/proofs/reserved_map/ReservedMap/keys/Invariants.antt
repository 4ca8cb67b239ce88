use Rattle.std.proofs.Common.{◌≡◌, ◌++◌}
use Rattle.std.specs.FinMap.{keys}
use Rattle.std.specs.Map.{keys_of}
use Rattle.reserved_map.specs.Filled.{filled}
use Rattle.reserved_map.proofs.Valued.{valued}
use Rattle.reserved_map.proofs.reserved_map.ReservedMap.keys.Given as goal

-- the keys so far and those of the places to come that have a value
abbrev pub invariant-loop-key : goal.invariant-loop-key
invariant-loop-key g l = l.keys.items ++ keys_of (valued l.key-iterator) ≡ keys (filled g.K.Ord.cmp l.self)
