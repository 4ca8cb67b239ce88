use Rattle.hb_grammar.proofs.AtLeastLemmas.{FromBound-nil, FromBound-all}
use Rattle.hb_grammar.proofs.TestLemmas.{decided}
use Rattle.hb_grammar.proofs.at_least.AtLeastGrammar.is_whole.Goals as goal

pub returns-in-Some : goal.returns-in-Some
returns-in-Some g c =
    let spells = g.A.Grammar.spells c.args.self.inner in
    rw c.in-Some.is (decided _ (FromBound-all spells c.in-Some.bound.now) (FromBound-nil spells c.in-Some.bound.now))
