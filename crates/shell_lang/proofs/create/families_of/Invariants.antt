use Rattle.std.proofs.Common.{◌≡◌, ◌++◌}
use Rattle.shell_line.specs.Table.{family}
use Rattle.shell_value.specs.Quotes.{values_of}
use Rattle.shell_lang.specs.Create.{AreTexts}
use Rattle.shell_lang.proofs.create.families_of.Given as goal

-- what was read and what is left are all families
abbrev pub invariant-loop-more : goal.invariant-loop-more
invariant-loop-more l = record { listed : values_of 16 l.bytes ≡ l.families.items ++ values_of l.more l.rest; texts : AreTexts family l.more l.rest }

abbrev pub decreases-loop-more : goal.decreases-loop-more
decreases-loop-more l = l.more
