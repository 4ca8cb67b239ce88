use Rattle.shell_text.proofs.BlanksLemmas.{PaddedFrom-nil, nil-PaddedFrom}
use Rattle.shell_text.proofs.padded.PaddedGrammar.is_whole.Goals as goal

pub returns : goal.returns
returns g c = (
  λ whole. PaddedFrom-nil c.args.self.padding (g.A.Grammar.spells c.args.self.inner) (c.is_whole.ensures.0 whole),
  λ padded. c.is_whole.ensures.1 (nil-PaddedFrom c.args.self.padding (g.A.Grammar.spells c.args.self.inner) padded),
)
