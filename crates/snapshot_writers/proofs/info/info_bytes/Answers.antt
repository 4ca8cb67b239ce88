use Rattle.std.proofs.Common.{arith}
use Rattle.snapshot_writers.proofs.WrittenLemmas.{info_written}
use Rattle.snapshot_writers.proofs.info.info_bytes.Goals as goal

pub returns-clause-record : goal.returns-clause-record
returns-clause-record c = info_written c.args.info.now c.as_slice.ensures.valid c.as_slice-2.ensures.valid (omega arith)
