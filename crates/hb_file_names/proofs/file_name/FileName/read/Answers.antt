use Rattle.hb_grammar.proofs.SameLemmas.{IsFault-Same}
use Rattle.hb_file_names.proofs.file_name.FileName.read.Goals as goal

pub returns-in-Err-clause-refused : goal.returns-in-Err-clause-refused
returns-in-Err-clause-refused c = IsFault-Same _ _ c.file_grammar.ensures _ _ c.in-Err.ensures.fault
