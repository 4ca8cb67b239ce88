use Rattle.hb_grammar.proofs.TestLemmas.{decided}
use Rattle.shell_text.proofs.repeated.RepeatedGrammar.is_whole.Goals as goal

pub returns : goal.returns
returns g c = decided c.may_end.result c.may_end.ensures.yes c.may_end.ensures.no
