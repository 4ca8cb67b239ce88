use Rattle.std.proofs.Common.{arith}
use Rattle.hb_cell.proofs.Cells.{length-key}
use Rattle.hfile_write.proofs.summary.key_len.Goals as goal

pub returns : goal.returns
returns c = omega (arith, length-key c.args.cell.now)
