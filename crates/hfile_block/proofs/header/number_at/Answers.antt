use Rattle.hfile_block.proofs.Headers.{number_behind}
use Rattle.hfile_block.proofs.header.number_at.Goals as goal

pub returns : goal.returns
returns c = number_behind c.args.bytes.now c.split_at.result.1.now c.args.at _ c.split_at.ensures.back c.read_u32.ensures
