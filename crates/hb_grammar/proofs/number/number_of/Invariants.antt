use Rattle.std.proofs.Common.{drop}
use Rattle.hb_grammar.proofs.NumberLemmas.{Leaves, value_after}
use Rattle.hb_grammar.proofs.number.number_of.Given as goal

abbrev pub invariant-loop-i : goal.invariant-loop-i
invariant-loop-i l = Leaves 18_446_744_073_709_551_615 l.value (drop l.i l.bytes) (value_after 0 l.bytes)
