use Rattle.std.proofs.Common.{take}
use Rattle.hb_grammar.proofs.GrammarLemmas.{Leaves}
use Rattle.hb_grammar.proofs.FrontLemmas.{NoneBelow}
use Rattle.hb_grammar.proofs.front.split_front.Given as goal

abbrev pub invariant-loop-i : goal.invariant-loop-i
invariant-loop-i g l = Leaves (g.G.Grammar.spells l.fn.grammar) (take l.i l.bytes) (g.G.Grammar.spells l.left) × NoneBelow (g.G.Grammar.spells l.fn.grammar) l.bytes l.i
