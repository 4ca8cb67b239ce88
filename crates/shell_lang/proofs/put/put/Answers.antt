use Rattle.std.proofs.Common.{◌≡◌, ℕ, List, sym, ap, ◌∙◌, subst}
use Rattle.hb_names.specs.FamilyName.{IsFamilyName}
use Rattle.shell_text.specs.Text.{IsText}
use Rattle.shell_line.specs.Table.{IsStamp, cell_value, column, name, row}
use Rattle.shell_value.specs.Cut.{before}
use Rattle.shell_value.specs.Quotes.{meant, rest_of, text_of}
use Rattle.shell_value.proofs.FitsLemmas.{HasOne-IsStamp}
use Rattle.shell_value.proofs.UnescapeLemmas.{IsSome-IsText}
use Rattle.shell_lang.proofs.TextLemmas.{PutTexts-IsPut, family-column, fits-HasOne}
use Rattle.shell_lang.proofs.put.put.Goals as goal

pub number_of-ts-requires : goal.number_of-ts-requires
number_of-ts-requires c =
    let bytes = c.args.arguments.now in
    let e : c.rest_of.result.now ≡ rest_of (rest_of (rest_of (rest_of bytes))) = cc in
    let stamp = (PutTexts-IsPut bytes c.requires).stamp in
    fits-HasOne c.rest_of.result.now (HasOne-IsStamp c.rest_of.result.now (subst IsStamp (sym e) stamp))

pub table_of-requires : goal.table_of-requires
table_of-requires c = subst (IsText name) (sym c.text_of.ensures) (PutTexts-IsPut c.args.arguments.now c.requires).in_table

pub value_of-requires : goal.value_of-requires
value_of-requires c =
    let bytes = c.args.arguments.now in
    let e : c.text_of-2.result.now ≡ text_of (rest_of bytes) = cc in
    IsSome-IsText row c.text_of-2.result.now (subst (IsText row) (sym e) (PutTexts-IsPut bytes c.requires).in_row)

pub value_of-requires-2 : goal.value_of-requires-2
value_of-requires-2 c =
    let bytes = c.args.arguments.now in
    let e : c.text_of-3.result.now ≡ text_of (rest_of (rest_of bytes)) = cc in
    IsSome-IsText column c.text_of-3.result.now (subst (IsText column) (sym e) (PutTexts-IsPut bytes c.requires).in_column)

pub column_of-requires : goal.column_of-requires
column_of-requires c =
    let bytes = c.args.arguments.now in
    let read : c.text_of-3.result.now ≡ text_of (rest_of (rest_of bytes)) = cc in
    let e : c.as_slice.result.now ≡ meant (text_of (rest_of (rest_of bytes))) = c.as_slice.ensures ∙ c.in_ok-column.ensures ∙ ap meant read in
    subst (λ (l : List ℕ). IsFamilyName (before 58 l)) (sym e) (family-column (text_of (rest_of (rest_of bytes))) (PutTexts-IsPut bytes c.requires).in_column)

pub value_of-requires-3 : goal.value_of-requires-3
value_of-requires-3 c =
    let bytes = c.args.arguments.now in
    let e : c.text_of-4.result.now ≡ text_of (rest_of (rest_of (rest_of bytes))) = cc in
    IsSome-IsText cell_value c.text_of-4.result.now (subst (IsText cell_value) (sym e) (PutTexts-IsPut bytes c.requires).in_value)
