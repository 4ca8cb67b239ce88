use Rattle.std.proofs.Common.{◌≡◌, [], drop}
use Rattle.plain_model.specs.Replies.{ascend_from}
use Rattle.plain_tables.proofs.new_tables.are_splits.Given as goal

abbrev pub invariant-loop-row : goal.invariant-loop-row
invariant-loop-row l = ascend_from l.last (drop l.row-index l.rows) ≡ ascend_from [] l.rows
