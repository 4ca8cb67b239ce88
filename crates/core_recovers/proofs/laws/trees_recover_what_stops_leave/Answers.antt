use Rattle.core_recovers.proofs.Recovered.{stopped_recovers, journal_recovers}
use Rattle.core_recovers.proofs.laws.trees_recover_what_stops_leave.Goals as goal

pub returns-clause-states : goal.returns-clause-states
returns-clause-states c = stopped_recovers

pub returns-clause-journals : goal.returns-clause-journals
returns-clause-journals c = journal_recovers
