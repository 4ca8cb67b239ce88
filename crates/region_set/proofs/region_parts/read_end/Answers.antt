use Rattle.std.proofs.lemmas.Result.{err_from_is_err_and}
use Rattle.hb_grammar.proofs.SameLemmas.{Same_trans, Avoids-Same}
use Rattle.hb_row_text.proofs.RowTextLemmas.{Avoids-IsRowText_line_feed}
use Rattle.region_set.specs.RegionLine.{end_text}
use Rattle.region_set.specs.RegionParts.{IsEnd}
use Rattle.commit_line.specs.declared.error.ListError.TheVariants.{BadList}
use Rattle.region_set.proofs.RegionPartsLemmas.{IsFrontRefusal-marked, Same-IsEnd}
use Rattle.region_set.proofs.region_parts.read_end.Goals as goal

pub word_end-requires-clause-avoids : goal.word_end-requires-clause-avoids
word_end-requires-clause-avoids c = Avoids-Same _ _ 10 c.row_grammar.ensures Avoids-IsRowText_line_feed

pub returns-in_err-end : goal.returns-in_err-end
returns-in_err-end c =
    let p = err_from_is_err_and c.from_residual.result c.from_residual.ensures.1 in
    rw (p.1, p.2) (IsFrontRefusal-marked _ IsEnd end_text 10 (Same_trans _ _ _ c.row_grammar.ensures Same-IsEnd) c.args.bytes.now c.args.at (BadList c.in_err-end.field-0.0.0)
    c.in_err-end.ensures)
