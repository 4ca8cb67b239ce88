use Rattle.core_contents.proofs.LawFacts.{completed_reads, stays_complete}
use Rattle.core_contents.proofs.SnapshotsStay.{captures_flush, stays_complete_in}
use Rattle.core_contents.proofs.laws.snapshots_read_their_captures.Goals as goal

pub returns-clause-completed : goal.returns-clause-completed
returns-clause-completed c = λ actor name x s few g h f. completed_reads actor name x s g f

pub returns-clause-flushed : goal.returns-clause-flushed
returns-clause-flushed c = λ actor r n name l cells more s a. captures_flush actor r n name l cells more s a.allowed

pub returns-clause-journal : goal.returns-clause-journal
returns-clause-journal c = stays_complete_in

pub returns-clause-kept : goal.returns-clause-kept
returns-clause-kept c = stays_complete
