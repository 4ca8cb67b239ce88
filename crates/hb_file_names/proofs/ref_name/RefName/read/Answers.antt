use Rattle.hb_grammar.proofs.SameLemmas.{IsFault-Same}
use Rattle.hb_file_names.proofs.ref_name.RefName.read.Goals as goal

pub returns-in-Err-clause-refused : goal.returns-in-Err-clause-refused
returns-in-Err-clause-refused c = IsFault-Same _ _ c.reference_grammar.ensures _ _ c.in-Err.ensures.fault
