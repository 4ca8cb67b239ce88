use Rattle.std.proofs.Common.{ap}
use Rattle.hb_grammar.proofs.AtLeastLemmas.{IsBoundOf-alike}
use Rattle.hb_grammar.proofs.at_least.AtLeastClone.clone.Goals as goal

pub returns : goal.returns
returns g c = record {
  cases = ap (λ fact. record { inner = c.args.self.now.inner; bound = c.args.self.now.bound; bounded = fact }) (IsBoundOf-alike _ _ _ c.args.self.now.bounded);
}
