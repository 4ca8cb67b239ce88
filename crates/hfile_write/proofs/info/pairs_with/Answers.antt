use Rattle.std.proofs.Common.{◌≤◌, arith}
use Rattle.hfile_write.specs.Summary.{average}
use Rattle.hfile_write.proofs.Told.{average_low}
use Rattle.hfile_write.proofs.info.pairs_with.Goals as goal

pub overflow_cast-keys : goal.overflow_cast-keys
overflow_cast-keys c =
    let low : average c.args.summary.now.key_bytes c.args.summary.now.cells ≤ 65673 = average_low c.args.summary.now.key_bytes c.args.summary.now.cells 65673 c.requires.low.keys in
    omega (arith, c.average-keys.ensures)

pub overflow_cast-values : goal.overflow_cast-values
overflow_cast-values c =
    let low : average c.args.summary.now.value_bytes c.args.summary.now.cells ≤ 10485760 = average_low c.args.summary.now.value_bytes c.args.summary.now.cells 10485760 c.requires.low.values in
    omega (arith, c.average-values.ensures)
