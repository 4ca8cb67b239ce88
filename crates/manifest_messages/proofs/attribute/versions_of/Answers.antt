use Rattle.std.proofs.Common.{sym, arith, ◌∙◌}
use Rattle.hb_grammar.proofs.NumeralLemmas.{IsNumeral-le, within-IsNumeral}
use Rattle.manifest_messages.proofs.attribute.versions_of.Goals as goal

pub number_of-requires : goal.number_of-requires
number_of-requires c =
    let value = c.as_slice-value.result.now in
    let numeral = c.new.ensures.forth value c.in-Ok.ensures.found in
    IsNumeral-le 1 0 2_147_483_647 18_446_744_073_709_551_615 value (omega arith) (omega arith) numeral

pub overflow_cast-result : goal.overflow_cast-result
overflow_cast-result c =
    let value = c.as_slice-value.result.now in
    let numeral = c.new.ensures.forth value c.in-Ok.ensures.found in
    let within = within-IsNumeral 1 2_147_483_647 c.number_of.result value c.number_of.type_inv (omega arith) c.number_of.ensures numeral in
    omega (arith, within.1)

pub returns-in-Ok-clause-told : goal.returns-in-Ok-clause-told
returns-in-Ok-clause-told c =
    let value = c.as_slice-value.result.now in
    let numeral = c.new.ensures.forth value c.in-Ok.ensures.found in
    let within = within-IsNumeral 1 2_147_483_647 c.number_of.result value c.number_of.type_inv (omega arith) c.number_of.ensures numeral in
    (c.is_versions.ensures.0 c.if-not-is_versions.false, sym c.as_slice-value.ensures ∙ sym c.number_of.ensures, within.0, within.1)
