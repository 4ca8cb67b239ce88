use Rattle.std.proofs.Common.{◌≡◌, ◌-◌, true, false, sym, ap, ◌∙◌, arith}
use Rattle.shell_value.specs.Quotes.{behind_values, is_listed}
use Rattle.shell_lang.proofs.CreateLemmas.{behind-listed, behind-over, behind-unlisted}
use Rattle.shell_lang.proofs.create.behind_families.Goals as goal

pub loop-more-preserved : goal.loop-more-preserved
loop-more-preserved c =
    let rest = c.loop-more.rest.now in
    let listed : is_listed rest ≡ true = sym c.is_listed.ensures ∙ c.if-is_listed.true in
    c.loop-more.invariant ∙ behind-listed c.loop-more.more (c.loop-more.more - 1) rest (omega (arith, c.loop-more-test.true)) listed
    ∙ ap (behind_values (c.loop-more.more - 1)) (sym c.rest_of-rest.ensures)

pub returns-else-is_listed : goal.returns-else-is_listed
returns-else-is_listed c =
    let rest = c.loop-more.rest.now in
    let none : is_listed rest ≡ false = sym c.is_listed.ensures ∙ c.if-is_listed.false in
    sym (c.loop-more.invariant ∙ behind-unlisted c.loop-more.more rest none)

pub returns-after-loop-more : goal.returns-after-loop-more
returns-after-loop-more c = sym (c.loop-more.invariant ∙ behind-over c.loop-more.more c.loop-more.rest.now (omega (arith, c.loop-more-test.false)))
