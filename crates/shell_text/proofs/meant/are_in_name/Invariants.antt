use Rattle.std.proofs.Common.{take}
use Rattle.hb_grammar.specs.declared.class.Class.TheVariants.{Name}
use Rattle.hb_grammar.specs.Class.{AllIn}
use Rattle.shell_text.proofs.meant.are_in_name.Given as goal

-- the bytes so far may stand in a name
abbrev pub invariant-loop-i : goal.invariant-loop-i
invariant-loop-i l = AllIn Name (take l.i l.bytes)
