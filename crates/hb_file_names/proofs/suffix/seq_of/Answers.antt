use Rattle.std.proofs.Common.{ℕ, ◌<◌, List, [], ◌∷◌, ◌++◌, length, codes, ap, ◌∙◌, arith}
use Rattle.std.proofs.lemmas.Bool.Decides.{nat_tests}
use Rattle.hb_grammar.proofs.NumeralLemmas.{IsNumeral-le, within-IsNumeral}
use Rattle.hb_file_names.proofs.SuffixLemmas.{HasDigits-IsSuffix}
use Rattle.hb_file_names.proofs.suffix.seq_of.Goals as goal

pub number_of-requires : goal.number_of-requires
number_of-requires c =
    let e = c.if-is_empty.ensures in
    let some : 0 < length c.args.suffix.now = grind (arith, nat_tests) in
    let digits = HasDigits-IsSuffix c.args.suffix.now c.requires some in
    IsNumeral-le _ _ _ _ _ (omega arith) (omega arith) digits.numeral

pub returns-clause-text : goal.returns-clause-text
returns-clause-text c =
    let e = c.if-is_empty.ensures in
    let some : 0 < length c.args.suffix.now = grind (arith, nat_tests) in
    let digits = HasDigits-IsSuffix c.args.suffix.now c.requires some in
    ap (λ (x : List ℕ). codes "_SeqId_" ++ (x ++ 95 ∷ [])) c.number_of.ensures ∙ digits.text

pub returns-clause-limit : goal.returns-clause-limit
returns-clause-limit c =
    let e = c.if-is_empty.ensures in
    let some : 0 < length c.args.suffix.now = grind (arith, nat_tests) in
    let digits = HasDigits-IsSuffix c.args.suffix.now c.requires some in
    (within-IsNumeral 0 9_223_372_036_854_775_807 c.number_of.result _ (omega arith) (omega arith) c.number_of.ensures digits.numeral).1
