use Rattle.std.proofs.Common.{arith}
use Rattle.hb_grammar.proofs.NumeralLemmas.{IsNumeral-le}
use Rattle.commit_list.proofs.NumberedLemmas.{IsNumbered-IsNumeral, IsNumeral-IsNumbered}
use Rattle.commit_list.proofs.commit_number.number_of_place.Goals as goal

pub number_of-requires : goal.number_of-requires
number_of-requires c =
    let component = c.last_component-component.result.now in
    let numeral = c.new.ensures.forth component c.in-Ok.ensures.found in
    IsNumeral-le 1 0 9_223_372_036_854_775_807 18_446_744_073_709_551_615 component (omega arith) (omega arith) numeral

pub returns-in-Ok : goal.returns-in-Ok
returns-in-Ok c =
    let component = c.last_component-component.result.now in
    IsNumbered-IsNumeral c.args.place.now component c.number_of.result c.last_component-component.ensures.last (c.new.ensures.forth component c.in-Ok.ensures.found)
    c.number_of.ensures c.number_of.type_inv

pub returns-in-Err : goal.returns-in-Err
returns-in-Err c = λ number numbered.
    let component = c.last_component-component.result.now in
    c.in-Err.ensures.fault.not_spelled (c.new.ensures.back component
    (IsNumeral-IsNumbered c.args.place.now component number c.last_component-component.ensures.last c.last_component-component.ensures.plain numbered))
