use Rattle.snapshot_writers.proofs.WrittenLemmas.{reference_written}
use Rattle.snapshot_writers.proofs.reference.write_reference.Goals as goal

pub returns-in_err-record-clause-record : goal.returns-in_err-record-clause-record
returns-in_err-record-clause-record c = reference_written c.args.reference.now c.requires

pub returns-clause-record : goal.returns-clause-record
returns-clause-record c = reference_written c.args.reference.now c.requires
