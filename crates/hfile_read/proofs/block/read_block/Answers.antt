use Rattle.std.proofs.Common.{arith}
use Rattle.hfile_read.proofs.Steps.{BeginsWith-long}
use Rattle.hfile_read.proofs.block.read_block.Goals as goal

pub split_at-requires : goal.split_at-requires
split_at-requires c = omega (arith, BeginsWith-long c.args.bytes.now c.in_ok-header.header c.in_ok-header.ensures.found)

pub returns-clause-within : goal.returns-clause-within
returns-clause-within c = BeginsWith-long c.args.bytes.now c.in_ok-header.header c.in_ok-header.ensures.found
