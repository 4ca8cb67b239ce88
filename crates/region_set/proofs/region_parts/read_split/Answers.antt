use Rattle.std.proofs.lemmas.Result.{err_from_is_err_and}
use Rattle.hb_grammar.proofs.SameLemmas.{Avoids-Same}
use Rattle.commit_line.proofs.ReadLemmas.{IsValueAt-IsWord}
use Rattle.region_set.specs.RegionLine.{split_word}
use Rattle.region_set.specs.RegionParts.{IsSplit}
use Rattle.commit_line.specs.declared.error.ListError.TheVariants.{BadList}
use Rattle.region_set.proofs.RegionPartsLemmas.{IsFrontRefusal-marked, Avoids-IsSplit}
use Rattle.region_set.proofs.region_parts.read_split.Goals as goal

pub word_end-requires-clause-avoids : goal.word_end-requires-clause-avoids
word_end-requires-clause-avoids c = Avoids-Same _ _ 32 c.split_grammar.ensures Avoids-IsSplit

pub returns-in_err-end : goal.returns-in_err-end
returns-in_err-end c =
    let p = err_from_is_err_and c.from_residual.result c.from_residual.ensures.1 in
    rw (p.1, p.2) (IsFrontRefusal-marked _ IsSplit split_word 32 c.split_grammar.ensures c.args.bytes.now c.args.at (BadList c.in_err-end.field-0.0.0) c.in_err-end.ensures)

pub is_split-requires : goal.is_split-requires
is_split-requires c = c.split_grammar.ensures.forth _ c.in_ok-end.ensures.spelled

pub returns : goal.returns
returns c =
    IsValueAt-IsWord IsSplit split_word _ 32 c.args.bytes.now c.args.at c.in_ok-end.end c.requires c.in_ok-end.ensures c.is_split.result tt c.is_split.ensures
