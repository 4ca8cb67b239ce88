use Rattle.std.proofs.Common.{◌≡◌, ◌<◌, ◌^◌, length, ap, arith}
use Rattle.hfile_index.specs.Written.{node_bytes}
use Rattle.hfile_index.proofs.Building.{node_small}
use Rattle.hfile_index.proofs.level.Level.add.Goals as goal

pub overflow_cast-size : goal.overflow_cast-size
overflow_cast-size c =
    let small : length (node_bytes c.args.entries.now) < 2 ^ 24 = node_small c.args.entries.now c.requires.short c.requires.few in
    let size : length c.in_ok-content.content ≡ length (node_bytes c.args.entries.now) = ap length c.in_ok-content.ensures in
    omega arith

pub overflow_add-size : goal.overflow_add-size
overflow_add-size c =
    let small : length (node_bytes c.args.entries.now) < 2 ^ 24 = node_small c.args.entries.now c.requires.short c.requires.few in
    let size : length c.in_ok-content.content ≡ length (node_bytes c.args.entries.now) = ap length c.in_ok-content.ensures in
    omega arith
