use Rattle.hb_grammar.proofs.SameLemmas.{Same_refl}
use Rattle.hb_names.proofs.encoded.encoded_grammar.Goals as goal

pub returns : goal.returns
returns c = Same_refl _
