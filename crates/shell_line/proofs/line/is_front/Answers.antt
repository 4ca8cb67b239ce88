use Rattle.std.proofs.Common.{sym, subst}
use Rattle.shell_line.specs.Line.{Begins}
use Rattle.shell_line.proofs.LineLemmas.{Begins-take, take-Begins}
use Rattle.shell_line.proofs.line.is_front.Goals as goal

pub returns-clause-yes : goal.returns-clause-yes
returns-clause-yes c e = subst (Begins c.args.bytes.now) c.word-word.ensures (Begins-take _ _ (c.is_at_front.ensures.yes e))

pub returns-clause-no : goal.returns-clause-no
returns-clause-no c e begins = c.is_at_front.ensures.no e (take-Begins _ _ (subst (Begins c.args.bytes.now) (sym c.word-word.ensures) begins))
