use Rattle.std.proofs.Common.{refl, arith, take, drop, ◌-◌}
use Rattle.std.specs.Fmt.{decimal}
use Rattle.std.proofs.lemmas.Result.{err_from_is_err_and}
use Rattle.hb_grammar.proofs.NumeralLemmas.{Avoids-IsNumeral, IsNumeral-le, within-IsNumeral}
use Rattle.hb_grammar.proofs.SameLemmas.{Same_trans, Avoids-Same}
use Rattle.commit_line.proofs.ReadLemmas.{IsValueAt-IsWord}
use Rattle.region_set.specs.RegionParts.{IsId}
use Rattle.commit_line.specs.declared.error.ListError.TheVariants.{BadList}
use Rattle.region_set.proofs.RegionPartsLemmas.{IsFrontRefusal-marked, Same-IsId, IsId-decimal}
use Rattle.region_set.proofs.region_parts.read_id.Goals as goal

pub word_end-requires-clause-avoids : goal.word_end-requires-clause-avoids
word_end-requires-clause-avoids c =
    Avoids-Same _ _ 32 c.new.ensures (Avoids-IsNumeral c.args.low 18_446_744_073_709_551_615 32 (omega arith) refl)

pub returns-in_err-end : goal.returns-in_err-end
returns-in_err-end c =
    let p = err_from_is_err_and c.from_residual.result c.from_residual.ensures.1 in
    rw (p.1, p.2) (IsFrontRefusal-marked _ (IsId c.args.low) decimal 32 (Same_trans _ _ _ c.new.ensures (Same-IsId c.args.low)) c.args.bytes.now c.args.at
    (BadList c.in_err-end.field-0.0.0) c.in_err-end.ensures)

pub number_of-requires : goal.number_of-requires
number_of-requires c =
    IsNumeral-le c.args.low 0 18_446_744_073_709_551_615 18_446_744_073_709_551_615 _ (omega arith) (omega arith) (c.new.ensures.forth _ c.in_ok-end.ensures.spelled)

pub returns : goal.returns
returns c =
    let word = take (c.in_ok-end.end - 1 - c.args.at) (drop c.args.at c.args.bytes.now) in
    let between = c.new.ensures.forth word c.in_ok-end.ensures.spelled in
    let fits = c.number_of.type_inv in
    let within = within-IsNumeral c.args.low 18_446_744_073_709_551_615 c.number_of.result word (omega arith) (omega arith) c.number_of.ensures between in
    let id = IsId-decimal c.args.low c.number_of.result word within.1 between c.number_of.ensures in
    IsValueAt-IsWord (IsId c.args.low) decimal _ 32 c.args.bytes.now c.args.at c.in_ok-end.end c.requires c.in_ok-end.ensures c.number_of.result id
    c.number_of.ensures
