use Rattle.core_points.proofs.Journals.{pointed_kept, pointed_replay, bare_begins}
use Rattle.core_points.proofs.laws.halves_say_their_rows.Goals as goal

pub returns-clause-steps : goal.returns-clause-steps
returns-clause-steps c = pointed_kept

pub returns-clause-journals : goal.returns-clause-journals
returns-clause-journals c = pointed_replay

pub returns-clause-bare : goal.returns-clause-bare
returns-clause-bare c = bare_begins
