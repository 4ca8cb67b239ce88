use Rattle.std.proofs.Common.{◌∙◌, ap, []}
use Rattle.plain_model.specs.CellEvents.{under, from}
use Rattle.plain_events.specs.Parts.{by_region}
use Rattle.plain_events.proofs.Parts.{two_set}
use Rattle.plain_events.proofs.after.split_cells.Goals as goal

pub returns : goal.returns
returns c =
    let cells = c.cells_at-cells.ensures ∙ ap (λ es. by_region [] es c.in_ok-key.key) c.as_slice.ensures ∙ ap (by_region [] c.args.state.now.stable) c.in_ok-key.ensures in
    two_set c.with_halves.result _ _ _ _ _ _ _ c.with_halves.ensures (c.in_ok-below.ensures ∙ ap (under c.args.high.now.start) cells) (c.in_ok-above.ensures ∙ ap (from c.args.high.now.start) cells)
