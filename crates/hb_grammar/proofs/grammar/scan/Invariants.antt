use Rattle.std.proofs.Common.{take}
use Rattle.hb_grammar.proofs.GrammarLemmas.{Leaves}
use Rattle.hb_grammar.proofs.grammar.scan.Given as goal

abbrev pub invariant-loop-i : goal.invariant-loop-i
invariant-loop-i g l = Leaves (g.G.Grammar.spells l.fn.grammar) (take l.i l.bytes) (g.G.Grammar.spells l.left)
