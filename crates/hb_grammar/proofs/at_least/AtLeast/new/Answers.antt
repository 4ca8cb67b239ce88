use Rattle.hb_grammar.proofs.AtLeastLemmas.{Same-FromBound, spelled_bound}
use Rattle.hb_grammar.proofs.at_least.AtLeast.new.Goals as goal

pub returns : goal.returns
returns g c = Same-FromBound _ _ (spelled_bound _ c.args.bound c.requires)
