use Rattle.hb_grammar.proofs.SameLemmas.{IsFault-Same}
use Rattle.hb_file_names.proofs.file_name.FileName.parse.Goals as goal

pub returns-in-Err-clause-fault : goal.returns-in-Err-clause-fault
returns-in-Err-clause-fault c = IsFault-Same _ _ c.file_grammar.ensures _ _ c.in-Err.ensures.fault
