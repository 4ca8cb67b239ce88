use Rattle.std.proofs.Common.{◌≡◌, map}
use Rattle.ns_tree.specs.Moves.{move_of}
use Rattle.ns_tree.proofs.moves.moves.Given as goal

-- the moves so far are those of the places that were taken
abbrev pub invariant-loop-place : goal.invariant-loop-place
invariant-loop-place l = l.moves.items ≡ map (move_of l.from l.to) l.yielded
