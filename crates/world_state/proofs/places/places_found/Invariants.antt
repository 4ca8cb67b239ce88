use Rattle.std.proofs.Common.{◌≡◌, ℕ, List, map}
use Rattle.world_state.proofs.places.places_found.Given as goal

abbrev pub invariant-loop-place : goal.invariant-loop-place
invariant-loop-place l = l.pairs.items ≡ map (λ (place : List ℕ). (place, tt)) l.yielded
