use Rattle.std.proofs.Common.{◌≡◌, ◌+◌, ◌-◌, [], true, false, sym, ap, ◌∙◌, subst, arith}
use Rattle.shell_text.specs.Text.{IsText}
use Rattle.shell_line.specs.Table.{family}
use Rattle.shell_value.specs.Quotes.{is_listed, meant, value_of, values_of}
use Rattle.shell_lang.proofs.CreateLemmas.{AreTexts-listed, values-all, values-over, values-push, values-unlisted}
use Rattle.shell_lang.proofs.create.families_of.Goals as goal
use Rattle.shell_lang.proofs.create.families_of.Goals.{then-loop-more-test+else-is_listed, else-loop-more-test}

pub family_name-requires : goal.family_name-requires
family_name-requires c =
    let rest = c.loop-more.rest.now in
    let listed : is_listed rest ≡ true = sym c.is_listed.ensures ∙ c.if-is_listed.true in
    let texts = AreTexts-listed family c.loop-more.more (c.loop-more.more - 1) rest (omega (arith, c.loop-more-test.true)) listed c.loop-more.invariant.texts in
    subst (IsText family) (sym c.text_of.ensures) texts.0

pub loop-more-preserved : goal.loop-more-preserved
loop-more-preserved c =
    let rest = c.loop-more.rest.now in
    let less = c.loop-more.more - 1 in
    let listed : is_listed rest ≡ true = sym c.is_listed.ensures ∙ c.if-is_listed.true in
    let one_less : c.loop-more.more ≡ less + 1 = omega (arith, c.loop-more-test.true) in
    let texts = AreTexts-listed family c.loop-more.more less rest one_less listed c.loop-more.invariant.texts in
    let read : c.in_ok-family.family ≡ value_of rest = c.in_ok-family.ensures ∙ ap meant c.text_of.ensures in
    rw (c.in_ok-push.ensures.items, c.rest_of-rest.ensures) (record {
      listed = values-push _ _ _ _ _ _ one_less listed read c.loop-more.invariant.listed;
      texts = texts.1;
    })

pub returns : goal.returns
returns c =
    let rest = c.loop-more.rest.now in
    let over : values_of c.loop-more.more rest ≡ [] =
    elim c.loop-more-test.branch as (λ _. values_of c.loop-more.more rest ≡ []) [
      | then-loop-more-test+else-is_listed w ↦
          let none : is_listed rest ≡ false = sym w.is_listed.ensures ∙ w.if-is_listed.false in values-unlisted c.loop-more.more rest none
      | else-loop-more-test w ↦ values-over c.loop-more.more rest (omega (arith, w.loop-more-test.false))
    ] in
    c.from_vec.ensures ∙ values-all _ _ _ over c.loop-more.invariant.listed
