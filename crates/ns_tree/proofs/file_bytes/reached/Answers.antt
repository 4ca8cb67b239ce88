use Rattle.std.proofs.Common.{◌≤◌, ◌-◌, ◌+◌, length, drop, ap, sym, ◌∙◌, arith}
use Rattle.ns_tree.specs.FileBytes.{joined}
use Rattle.ns_tree.proofs.Pieces.{drop-first, reached_next}
use Rattle.ns_tree.proofs.file_bytes.reached.Goals as goal

pub loop-number-preserved : goal.loop-number-preserved
loop-number-preserved c =
    let first = drop-first c.args.pieces.now c.loop-number.number c.index-pieces-number.result c.loop-number-test.true c.index-pieces-number.is in
    let past : length c.index-pieces-number.result ≤ c.loop-number.skip = omega arith in
    reached_next c.args.pieces.now c.loop-number.number c.index-pieces-number.result c.args.at c.loop-number.skip first past c.loop-number.invariant
    ∙ ap (λ n. drop (c.loop-number.skip - n) (joined (drop (c.loop-number.number + 1) c.args.pieces.now))) (sym c.len-in-loop-number.ensures.value)
