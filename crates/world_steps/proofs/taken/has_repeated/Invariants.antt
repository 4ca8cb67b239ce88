use Rattle.std.proofs.Common.{drop}
use Rattle.world_steps.specs.Starts.{Repeats}
use Rattle.world_steps.proofs.taken.has_repeated.Given as goal

abbrev pub invariant-loop-i : goal.invariant-loop-i
invariant-loop-i l = Repeats l.keys → Repeats (drop l.i l.keys)
