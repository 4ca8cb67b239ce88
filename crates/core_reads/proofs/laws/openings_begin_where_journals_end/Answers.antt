use Rattle.core_reads.proofs.Next.{next_told, failed_told}
use Rattle.core_reads.proofs.laws.openings_begin_where_journals_end.Goals as goal

pub returns-clause-now : goal.returns-clause-now
returns-clause-now c = next_told

pub returns-clause-other : goal.returns-clause-other
returns-clause-other c = failed_told
