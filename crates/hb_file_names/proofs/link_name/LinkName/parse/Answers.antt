use Rattle.hb_grammar.proofs.SameLemmas.{IsFault-Same}
use Rattle.hb_file_names.proofs.link_name.LinkName.parse.Goals as goal

pub returns-in-Err-clause-fault : goal.returns-in-Err-clause-fault
returns-in-Err-clause-fault c = IsFault-Same _ _ c.link_grammar.ensures _ _ c.in-Err.ensures.fault
