use Rattle.std.proofs.Common.{true, false, sym, subst}
use Rattle.shell_text.specs.Blanks.{BlanksFrom}
use Rattle.shell_text.specs.Text.{IsText}
use Rattle.shell_line.specs.Table.{name}
use Rattle.shell_value.proofs.PieceLemmas.{IsCut-IsQuoted}
use Rattle.shell_lang.proofs.short.snapshot_alone.Goals as goal

pub snapshot_of-requires : goal.snapshot_of-requires
snapshot_of-requires c = subst (IsText name) (sym c.text_of.ensures) (IsCut-IsQuoted true name (BlanksFrom false) c.args.arguments.now c.requires).means
