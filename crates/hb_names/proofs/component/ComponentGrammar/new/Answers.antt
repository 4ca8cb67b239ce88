use Rattle.hb_names.proofs.ComponentLemmas.{Same-ComponentAfter}
use Rattle.hb_names.proofs.component.ComponentGrammar.new.Goals as goal

pub returns : goal.returns
returns c = Same-ComponentAfter
