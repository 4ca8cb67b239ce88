use Rattle.std.proofs.Common.{◌≡◌, sym, subst}
use Rattle.shell_text.specs.Text.{IsText}
use Rattle.shell_line.specs.Table.{row, name}
use Rattle.shell_value.specs.Quotes.{rest_of, text_of}
use Rattle.shell_value.proofs.UnescapeLemmas.{IsSome-IsText}
use Rattle.shell_lang.proofs.TextLemmas.{TwoTexts-IsTwo}
use Rattle.shell_lang.proofs.short.split.Goals as goal

pub table_of-requires : goal.table_of-requires
table_of-requires c = subst (IsText name) (sym c.text_of.ensures) (TwoTexts-IsTwo name row c.args.arguments.now c.requires).one

pub value_of-requires : goal.value_of-requires
value_of-requires c =
    let e : c.text_of-2.result.now ≡ text_of (rest_of c.args.arguments.now) = cc in
    IsSome-IsText row c.text_of-2.result.now (subst (IsText row) (sym e) (TwoTexts-IsTwo name row c.args.arguments.now c.requires).two)
