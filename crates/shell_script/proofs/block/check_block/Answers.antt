use Rattle.hb_grammar.proofs.SameLemmas.{IsFault-Same}
use Rattle.shell_script.proofs.block.check_block.Goals as goal

pub returns-in-Err-clause-fault : goal.returns-in-Err-clause-fault
returns-in-Err-clause-fault c = IsFault-Same _ _ c.block_grammar-grammar.ensures _ _ c.in-Err.ensures.fault
