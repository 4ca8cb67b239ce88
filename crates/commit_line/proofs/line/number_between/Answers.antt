use Rattle.commit_line.proofs.NumberLineLemmas.{IsNumeral-between, text-between}
use Rattle.commit_line.proofs.line.number_between.Goals as goal

pub number_of-requires : goal.number_of-requires
number_of-requires c = IsNumeral-between c.args.text.now c.args.line.now c.requires

pub returns : goal.returns
returns c = text-between c.args.text.now c.args.line.now c.requires c.number_of.result c.number_of.ensures
