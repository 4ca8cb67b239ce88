use Rattle.hb_grammar.proofs.SameLemmas.{IsFault-Same}
use Rattle.shell_line.proofs.line.scan_create.Goals as goal

pub returns-in-Err-clause-fault : goal.returns-in-Err-clause-fault
returns-in-Err-clause-fault c = IsFault-Same _ _ c.create-grammar.ensures _ _ c.in-Err.ensures.fault
