use Rattle.hb_grammar.proofs.SameLemmas.{IsFault-Same}
use Rattle.hb_file_names.proofs.ref_name.RefName.parse.Goals as goal

pub returns-in-Err-clause-fault : goal.returns-in-Err-clause-fault
returns-in-Err-clause-fault c = IsFault-Same _ _ c.reference_grammar.ensures _ _ c.in-Err.ensures.fault
