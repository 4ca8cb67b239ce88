use Rattle.std.proofs.Common.{◌∙◌}
use Rattle.plain_events.proofs.Parts.{cells_done}
use Rattle.plain_events.proofs.copies.with_cells.Goals as goal

pub returns-then-i-copies : goal.returns-then-i-copies
returns-then-i-copies c = c.from_vec.ensures ∙ cells_done c.loop-i.all.items _ c.args.regions.now c.args.copies.now c.loop-i.i c.if-i-copies.true c.loop-i.invariant
