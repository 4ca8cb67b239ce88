use Rattle.std.proofs.Common.{◌≡◌, sym, subst}
use Rattle.shell_text.specs.Text.{IsText}
use Rattle.shell_line.specs.Table.{name}
use Rattle.shell_value.specs.Quotes.{rest_of, text_of}
use Rattle.shell_lang.proofs.TextLemmas.{TwoTexts-IsTwo}
use Rattle.shell_lang.proofs.short.clone_of.Goals as goal

pub snapshot_of-requires : goal.snapshot_of-requires
snapshot_of-requires c = subst (IsText name) (sym c.text_of.ensures) (TwoTexts-IsTwo name name c.args.arguments.now c.requires).one

pub table_of-requires : goal.table_of-requires
table_of-requires c =
    let e : c.text_of-2.result.now ≡ text_of (rest_of c.args.arguments.now) = cc in
    subst (IsText name) (sym e) (TwoTexts-IsTwo name name c.args.arguments.now c.requires).two
