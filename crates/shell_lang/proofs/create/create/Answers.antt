use Rattle.std.proofs.Common.{◌≡◌, ◌<◌, ◌^◌, ℕ, List, true, IfSome, sym, ap, ◌∙◌, subst}
use Rattle.shell_text.specs.Text.{IsText}
use Rattle.shell_line.specs.Table.{family, name}
use Rattle.shell_value.specs.Cut.{before, has_mark}
use Rattle.shell_value.specs.Quotes.{behind_values, number_of, rest_of}
use Rattle.shell_lang.specs.Create.{AreTexts, HasRows}
use Rattle.shell_lang.proofs.CreateLemmas.{CreateTexts-IsCreate, versions-fit}
use Rattle.shell_lang.proofs.create.create.Goals as goal

pub versions_of-versions-requires : goal.versions_of-versions-requires
versions_of-versions-requires c =
    let bytes = c.args.arguments.now in
    let end : c.behind_families-end.result.now ≡ behind_values 16 (rest_of bytes) = c.behind_families-end.ensures ∙ ap (behind_values 16) c.rest_of-listed.ensures in
    subst (λ (l : List ℕ). IfSome (number_of (before 39 l)) (λ n. n < 2 ^ 32)) (sym end)
    (versions-fit (behind_values 16 (rest_of bytes)) (CreateTexts-IsCreate bytes c.requires).end)

pub table_of-requires : goal.table_of-requires
table_of-requires c = subst (IsText name) (sym c.text_of.ensures) (CreateTexts-IsCreate c.args.arguments.now c.requires).in_table

pub families_of-requires : goal.families_of-requires
families_of-requires c = subst (AreTexts family 16) (sym c.rest_of-listed.ensures) (CreateTexts-IsCreate c.args.arguments.now c.requires).families

pub rows_of-requires : goal.rows_of-requires
rows_of-requires c =
    let bytes = c.args.arguments.now in
    let end : c.behind_families-end.result.now ≡ behind_values 16 (rest_of bytes) = c.behind_families-end.ensures ∙ ap (behind_values 16) c.rest_of-listed.ensures in
    subst (λ (l : List ℕ). has_mark 39 l ≡ true → HasRows l) (sym end) (CreateTexts-IsCreate bytes c.requires).end.rows
