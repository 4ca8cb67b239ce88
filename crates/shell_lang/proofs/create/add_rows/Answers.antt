use Rattle.std.proofs.Common.{◌≡◌, ◌+◌, ◌-◌, true, false, sym, ap, ◌∙◌, subst, arith}
use Rattle.shell_text.specs.Text.{IsText}
use Rattle.shell_line.specs.Table.{row}
use Rattle.shell_value.specs.Quotes.{is_listed, meant, value_of}
use Rattle.shell_value.proofs.UnescapeLemmas.{IsSome-IsText}
use Rattle.shell_lang.proofs.CreateLemmas.{AreTexts-listed, values-all, values-over, values-push, values-unlisted}
use Rattle.shell_lang.proofs.create.add_rows.Goals as goal

pub value_of-requires : goal.value_of-requires
value_of-requires c =
    let rest = c.loop-more.rest.now in
    let listed : is_listed rest ≡ true = sym c.is_listed.ensures ∙ c.if-is_listed.true in
    let texts = AreTexts-listed row c.loop-more.more (c.loop-more.more - 1) rest (omega (arith, c.loop-more-test.true)) listed c.loop-more.invariant.texts in
    IsSome-IsText row c.text_of.result.now (subst (IsText row) (sym c.text_of.ensures) texts.0)

pub loop-more-preserved : goal.loop-more-preserved
loop-more-preserved c =
    let rest = c.loop-more.rest.now in
    let less = c.loop-more.more - 1 in
    let listed : is_listed rest ≡ true = sym c.is_listed.ensures ∙ c.if-is_listed.true in
    let one_less : c.loop-more.more ≡ less + 1 = omega (arith, c.loop-more-test.true) in
    let texts = AreTexts-listed row c.loop-more.more less rest one_less listed c.loop-more.invariant.texts in
    let read : c.in_ok-row.row ≡ value_of rest = c.in_ok-row.ensures ∙ ap meant c.text_of.ensures in
    rw (c.in_ok-push.ensures.items, c.rest_of-rest.ensures) (record {
      listed = values-push _ _ _ _ _ _ one_less listed read c.loop-more.invariant.listed;
      texts = texts.1;
    })

pub returns-else-is_listed : goal.returns-else-is_listed
returns-else-is_listed c =
    let rest = c.loop-more.rest.now in
    let none : is_listed rest ≡ false = sym c.is_listed.ensures ∙ c.if-is_listed.false in
    values-all _ _ _ (values-unlisted c.loop-more.more rest none) c.loop-more.invariant.listed

pub returns-after-loop-more : goal.returns-after-loop-more
returns-after-loop-more c =
    values-all _ _ _ (values-over c.loop-more.more c.loop-more.rest.now (omega (arith, c.loop-more-test.false))) c.loop-more.invariant.listed
