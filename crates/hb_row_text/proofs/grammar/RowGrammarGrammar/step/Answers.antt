use Rattle.hb_row_text.proofs.RowTextLemmas.{Follows-dash}
use Rattle.hb_row_text.proofs.grammar.RowGrammarGrammar.step.Goals as goal

pub returns-then-byte-eq45-clause-goes_on : goal.returns-then-byte-eq45-clause-goes_on
returns-then-byte-eq45-clause-goes_on c = rw c.in-Whole.is (Follows-dash c.args.byte c.if-byte-eq45.true)
