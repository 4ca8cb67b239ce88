use Rattle.std.proofs.Common.{◌≡◌, ◌++◌, drop}
use Rattle.plain_model.specs.CellEvents.{numbers_by_key}
use Rattle.plain_events.proofs.copies.with_numbers.Given as goal

abbrev pub invariant-loop-i : goal.invariant-loop-i
invariant-loop-i l = l.all.items ++ numbers_by_key (drop l.i l.regions) (drop l.i l.copies) ≡ numbers_by_key l.regions l.copies
