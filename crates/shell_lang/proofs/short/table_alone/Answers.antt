use Rattle.std.proofs.Common.{true, false, sym, subst}
use Rattle.shell_text.specs.Blanks.{BlanksFrom}
use Rattle.shell_text.specs.Text.{IsText}
use Rattle.shell_line.specs.Table.{name}
use Rattle.shell_value.proofs.PieceLemmas.{IsCut-IsQuoted}
use Rattle.shell_lang.proofs.short.table_alone.Goals as goal

pub table_of-requires : goal.table_of-requires
table_of-requires c = subst (IsText name) (sym c.text_of.ensures) (IsCut-IsQuoted true name (BlanksFrom false) c.args.arguments.now c.requires).means
