use Rattle.std.proofs.Common.{sym}
use Rattle.shell_text.proofs.TextLemmas.{Refuses-backslash}
use Rattle.shell_text.proofs.text.Text.step_escape.Goals as goal

pub returns-else-is_open-clause-stops : goal.returns-else-is_open-clause-stops
returns-else-is_open-clause-stops c = Refuses-backslash c.args.argument c.args.byte c.if-byte-ne92.false (sym c.if-is_open.ensures)
