use Rattle.core_bytes.proofs.Journals.{written_replay, bare_begins}
use Rattle.core_bytes.proofs.WrittenKept.{written_kept}
use Rattle.core_bytes.proofs.laws.files_have_what_they_were_written_of.Goals as goal

pub returns-clause-steps : goal.returns-clause-steps
returns-clause-steps c = written_kept

pub returns-clause-journals : goal.returns-clause-journals
returns-clause-journals c = written_replay

pub returns-clause-bare : goal.returns-clause-bare
returns-clause-bare c = bare_begins
