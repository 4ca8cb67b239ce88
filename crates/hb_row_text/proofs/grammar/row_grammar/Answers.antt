use Rattle.hb_row_text.proofs.RowTextLemmas.{Same-IsRowDigits}
use Rattle.hb_row_text.proofs.grammar.row_grammar.Goals as goal

pub returns : goal.returns
returns c = Same-IsRowDigits
