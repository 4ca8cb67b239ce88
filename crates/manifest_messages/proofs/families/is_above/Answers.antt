use Rattle.std.proofs.Common.{refl, ap, ◌∙◌}
use Rattle.std.specs.Ordering.{is_lt}
use Rattle.manifest_messages.proofs.Rising.{above_last, AreRising-one}
use Rattle.manifest_messages.proofs.families.is_above.Goals as goal

pub returns-in-Some : goal.returns-in-Some
returns-in-Some c rising =
    let last = c.as_slice.ensures.bytes in
    let one = c.as_slice-in-Some.ensures.bytes in
    above_last c.args.families.now c.in-Some._front.now c.in-Some.last.now c.args.family.now c.is_lt.result c.in-Some.ensures.cases.0 (c.is_lt.ensures ∙ ap is_lt (rw (last, one) at c.cmp.ensures)) rising

pub returns-in-None : goal.returns-in-None
returns-in-None c rising = (λ _. AreRising-one c.args.families.now c.args.family.now c.in-None.ensures.cases, λ _. refl)
