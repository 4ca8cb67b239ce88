use Rattle.std.proofs.Common.{option_copied}
use Rattle.std.proofs.lemmas.Result.{err_from_is_err_and}
use Rattle.commit_line.specs.declared.error.ListError.TheVariants.{BadList}
use Rattle.region_set.proofs.RegionLineLemmas.{Avoids-line_word, IsFrontRefusal-word, IsFrontRefusal-parts, IsValueAt-region_of}
use Rattle.region_set.proofs.region_line.read_region.Goals as goal

pub word_end-requires-clause-avoids : goal.word_end-requires-clause-avoids
word_end-requires-clause-avoids c = Avoids-line_word

pub returns-in_err-parts_at : goal.returns-in_err-parts_at
returns-in_err-parts_at c =
    let p = err_from_is_err_and c.from_residual.result c.from_residual.ensures.1 in
    rw (p.1, p.2) (IsFrontRefusal-word c.args.table.now (option_copied c.args.last) c.requires.last c.args.bytes.now c.args.at (BadList c.in_err-parts_at.field-0.0.0)
    c.in_err-parts_at.ensures)

pub returns-in_err-parts : goal.returns-in_err-parts
returns-in_err-parts c =
    let p = err_from_is_err_and c.from_residual-in_err-parts.result c.from_residual-in_err-parts.ensures.1 in
    rw (p.1, p.2) (IsFrontRefusal-parts c.args.table.now (option_copied c.args.last) c.requires.last c.args.bytes.now c.args.at c.in_ok-parts_at.parts_at c.requires.within
    c.in_ok-parts_at.ensures c.in_err-parts.field-0.0 c.in_err-parts.ensures)

pub returns : goal.returns
returns c =
    rw c.in_ok-region_of.ensures (IsValueAt-region_of c.args.table.now (option_copied c.args.last) c.requires.last c.args.bytes.now c.args.at c.in_ok-parts_at.parts_at
    c.in_ok-parts.end c.requires.within c.in_ok-parts_at.ensures c.in_ok-parts.parts c.in_ok-parts.ensures)
