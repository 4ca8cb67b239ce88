use Rattle.print_laws.proofs.PrintedLemmas.{causes_apart, causes_told_by_text}
use Rattle.print_laws.proofs.laws.causes_are_told.Goals as goal

pub returns-clause-told : goal.returns-clause-told
returns-clause-told c = causes_told_by_text

pub returns-clause-apart : goal.returns-clause-apart
returns-clause-apart c = causes_apart
