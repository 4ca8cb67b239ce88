use Rattle.std.proofs.Common.{◌≡◌, ℕ, List, true, false, IsSome, sym, ap, ◌∙◌, subst}
use Rattle.hb_names.specs.FamilyName.{IsFamilyName}
use Rattle.shell_text.specs.declared.text.Place.TheVariants.{Between}
use Rattle.shell_text.specs.Text.{IsText, meaning}
use Rattle.shell_line.specs.Table.{name, row}
use Rattle.shell_value.specs.Cut.{before, has_mark}
use Rattle.shell_value.specs.Quotes.{meant, rest_of, text_of, value_of}
use Rattle.shell_value.proofs.FitsLemmas.{HasOne}
use Rattle.shell_value.proofs.UnescapeLemmas.{IsSome-IsText}
use Rattle.shell_lang.proofs.TextLemmas.{DeleteTexts-IsDelete, fits-HasOne}
use Rattle.shell_lang.proofs.delete.delete.Goals as goal

pub table_of-requires : goal.table_of-requires
table_of-requires c = subst (IsText name) (sym c.text_of.ensures) (DeleteTexts-IsDelete c.args.arguments.now c.requires).in_table

pub value_of-requires : goal.value_of-requires
value_of-requires c =
    let bytes = c.args.arguments.now in
    let e : c.text_of-2.result.now ≡ text_of (rest_of bytes) = cc in
    IsSome-IsText row c.text_of-2.result.now (subst (IsText row) (sym e) (DeleteTexts-IsDelete bytes c.requires).in_row)

pub value_of-requires-2 : goal.value_of-requires-2
value_of-requires-2 c =
    let bytes = c.args.arguments.now in
    let e : c.text_of-3.result.now ≡ text_of (rest_of (rest_of bytes)) = cc in
    subst (λ (l : List ℕ). IsSome (meaning Between l)) (sym e) (DeleteTexts-IsDelete bytes c.requires).deleted.some

pub marker-requires-clause-family : goal.marker-requires-clause-family
marker-requires-clause-family c =
    let bytes = c.args.arguments.now in
    let read : c.text_of-3.result.now ≡ text_of (rest_of (rest_of bytes)) = cc in
    let e : c.as_slice.result.now ≡ value_of (rest_of (rest_of bytes)) = c.as_slice.ensures ∙ c.in_ok-deleted.ensures ∙ ap meant read in
    subst (λ (l : List ℕ). has_mark 58 l ≡ false → IsFamilyName l) (sym e) (DeleteTexts-IsDelete bytes c.requires).deleted.family

pub marker-requires-clause-column : goal.marker-requires-clause-column
marker-requires-clause-column c =
    let bytes = c.args.arguments.now in
    let read : c.text_of-3.result.now ≡ text_of (rest_of (rest_of bytes)) = cc in
    let e : c.as_slice.result.now ≡ value_of (rest_of (rest_of bytes)) = c.as_slice.ensures ∙ c.in_ok-deleted.ensures ∙ ap meant read in
    subst (λ (l : List ℕ). has_mark 58 l ≡ true → IsFamilyName (before 58 l)) (sym e) (DeleteTexts-IsDelete bytes c.requires).deleted.column

pub marker-requires-clause-fits : goal.marker-requires-clause-fits
marker-requires-clause-fits c =
    let bytes = c.args.arguments.now in
    let e : c.rest_of-end.result.now ≡ rest_of (rest_of (rest_of bytes)) = cc in
    fits-HasOne c.rest_of-end.result.now (subst (HasOne 9223372036854775807) (sym e) (DeleteTexts-IsDelete bytes c.requires).deleted.one)
