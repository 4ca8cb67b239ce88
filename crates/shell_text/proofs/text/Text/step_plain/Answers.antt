use Rattle.std.proofs.Common.{sym}
use Rattle.shell_text.proofs.TextLemmas.{Follows-plain, Refuses-plain}
use Rattle.shell_text.proofs.text.Text.step_plain.Goals as goal

pub returns-in-Some-clause-goes_on : goal.returns-in-Some-clause-goes_on
returns-in-Some-clause-goes_on c = Follows-plain c.args.argument c.in-Some.argument c.args.byte c.requires (sym c.in-Some.ensures)

pub returns-in-None-clause-stops : goal.returns-in-None-clause-stops
returns-in-None-clause-stops c = Refuses-plain c.args.argument c.args.byte c.requires (sym c.in-None.ensures)
