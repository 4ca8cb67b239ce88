use Rattle.std.proofs.Common.{◌≡◌, ◌++◌}
use Rattle.shell_line.specs.Table.{row}
use Rattle.shell_value.specs.Quotes.{values_of}
use Rattle.shell_lang.specs.Create.{AreTexts}
use Rattle.shell_lang.proofs.create.add_rows.Given as goal

-- what was read and what is left are all rows
abbrev pub invariant-loop-more : goal.invariant-loop-more
invariant-loop-more l = record { listed : l.initial.rows.items ++ values_of 998 l.bytes ≡ l.rows.items ++ values_of l.more l.rest; texts : AreTexts row l.more l.rest }

abbrev pub decreases-loop-more : goal.decreases-loop-more
decreases-loop-more l = l.more
