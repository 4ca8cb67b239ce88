use Rattle.hb_grammar.proofs.SameLemmas.{Same_refl, Same_trans, Same-Joined}
use Rattle.shell_script.proofs.BlockLemmas.{Same-BlockParts}
use Rattle.shell_script.proofs.block.block_grammar.Goals as goal

pub returns : goal.returns
returns c = Same_trans _ _ _ c.new.ensures (Same_trans _ _ _ (Same-Joined _ _ _ _ (Same_refl _) c.new-name.ensures) Same-BlockParts)
