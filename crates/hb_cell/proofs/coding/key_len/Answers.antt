use Rattle.std.proofs.Common.{arith}
use Rattle.hb_cell.proofs.Cells.{length-key}
use Rattle.hb_cell.proofs.coding.key_len.Goals as goal

pub returns-clause-exact : goal.returns-clause-exact
returns-clause-exact c = omega (arith, length-key c.args.cell.now)
