use Rattle.snapshot_writers.proofs.WrittenLemmas.{region_written}
use Rattle.snapshot_writers.proofs.region.write_region_info.Goals as goal

pub returns-in_err-record-clause-record : goal.returns-in_err-record-clause-record
returns-in_err-record-clause-record c = region_written c.args.info.now c.requires

pub returns-clause-record : goal.returns-clause-record
returns-clause-record c = region_written c.args.info.now c.requires
