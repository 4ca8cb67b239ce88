use Rattle.std.proofs.Common.{◌-◌}
use Rattle.hb_grammar.proofs.BetweenLemmas.{Shifts}
use Rattle.hb_grammar.proofs.between.can_reach.Given as goal

abbrev pub invariant-loop-front : goal.invariant-loop-front
invariant-loop-front l = Shifts l.max l.value l.front l.span

abbrev pub decreases-loop-front : goal.decreases-loop-front
decreases-loop-front l = l.max - l.front
