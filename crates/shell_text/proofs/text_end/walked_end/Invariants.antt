use Rattle.std.proofs.Common.{take}
use Rattle.hb_grammar.proofs.GrammarLemmas.{Leaves}
use Rattle.shell_text.specs.Text.{IsText, TextFrom}
use Rattle.shell_text.proofs.text_end.walked_end.Given as goal

-- what is left of the text is what is left of the argument's behind the bytes so far
abbrev pub invariant-loop-i : goal.invariant-loop-i
invariant-loop-i l = Leaves (IsText l.fn.argument) (take l.i l.bytes) (TextFrom l.left.place l.left.argument)
