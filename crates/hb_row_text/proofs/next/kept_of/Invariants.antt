use Rattle.std.proofs.Common.{◌≡◌, ◌≤◌, length, take}
use Rattle.hb_row_text.specs.NextRow.{next_row}
use Rattle.hb_row_text.proofs.next.kept_of.Given as goal

abbrev pub invariant-loop-kept : goal.invariant-loop-kept
invariant-loop-kept l = record { within : l.kept ≤ length l.row; same : next_row (length l.row) l.row ≡ next_row l.kept (take l.kept l.row) }

abbrev pub decreases-loop-kept : goal.decreases-loop-kept
decreases-loop-kept l = l.kept
