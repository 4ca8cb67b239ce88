use Rattle.shell_line.proofs.LineLemmas.{none_begun}
use Rattle.shell_line.proofs.line.is_begun.Goals as goal

pub returns-in-None-clause-no : goal.returns-in-None-clause-no
returns-in-None-clause-no c _ = none_begun c.args.kinds.now c.args.bytes.now c.in-None.ensures.none
