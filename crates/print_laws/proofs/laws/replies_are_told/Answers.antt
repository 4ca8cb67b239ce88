use Rattle.print_laws.proofs.PrintedLemmas.{alike_printed, replies_told}
use Rattle.print_laws.proofs.laws.replies_are_told.Goals as goal

pub returns-clause-told : goal.returns-clause-told
returns-clause-told c = replies_told

pub returns-clause-alike : goal.returns-clause-alike
returns-clause-alike c = alike_printed
