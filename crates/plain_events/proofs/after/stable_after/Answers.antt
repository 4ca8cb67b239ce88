use Rattle.plain_events.proofs.after.stable_after.Goals as goal

pub returns-in-Split : goal.returns-in-Split
returns-in-Split c = rw c.in-Split.is c.split_cells.ensures
