use Rattle.std.proofs.Common.{refl}
use Rattle.commit_line.proofs.NumberLineLemmas.{IsFault-rest}
use Rattle.region_set.proofs.region_set.read_end.Goals as goal

pub returns-in-Err : goal.returns-in-Err
returns-in-Err c = (c.in-Err.fault.0, refl, IsFault-rest _ c.args.bytes.now c.args.at c.in-Err.fault.0 c.in-Err.ensures.fault)
