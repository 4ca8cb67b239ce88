use Rattle.std.proofs.Common.{option_copied}
use Rattle.std.proofs.lemmas.Result.{err_from_is_err_and}
use Rattle.hb_grammar.proofs.AtLeastLemmas.{Same-NotBelow}
use Rattle.hb_grammar.proofs.SameLemmas.{Same_trans, Avoids-Same}
use Rattle.hb_row_text.specs.RowText.{row_text}
use Rattle.region_set.specs.RegionParts.{IsStart}
use Rattle.commit_line.specs.declared.error.ListError.TheVariants.{BadList}
use Rattle.region_set.proofs.RegionPartsLemmas.{IsFrontRefusal-marked, Same-IsStart, Avoids-IsStart}
use Rattle.region_set.proofs.region_parts.read_start.Goals as goal

pub word_end-requires-clause-avoids : goal.word_end-requires-clause-avoids
word_end-requires-clause-avoids c =
    let bound = option_copied c.args.bound in
    let words = Same_trans _ _ _ c.new-grammar.ensures (Same_trans _ _ _ (Same-NotBelow _ _ bound c.row_grammar.ensures) (Same-IsStart bound)) in
    Avoids-Same _ _ 32 words (Avoids-IsStart bound)

pub returns-in_err-end : goal.returns-in_err-end
returns-in_err-end c =
    let p = err_from_is_err_and c.from_residual.result c.from_residual.ensures.1 in
    let bound = option_copied c.args.bound in
    let words = Same_trans _ _ _ c.new-grammar.ensures (Same_trans _ _ _ (Same-NotBelow _ _ bound c.row_grammar.ensures) (Same-IsStart bound)) in
    rw (p.1, p.2) (IsFrontRefusal-marked _ (IsStart bound) row_text 32 words c.args.bytes.now c.args.at (BadList c.in_err-end.field-0.0.0) c.in_err-end.ensures)
