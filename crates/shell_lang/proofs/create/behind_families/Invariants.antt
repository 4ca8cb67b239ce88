use Rattle.std.proofs.Common.{◌≡◌}
use Rattle.shell_value.specs.Quotes.{behind_values}
use Rattle.shell_lang.proofs.create.behind_families.Given as goal

-- what is left has the same behind it
abbrev pub invariant-loop-more : goal.invariant-loop-more
invariant-loop-more l = behind_values 16 l.bytes ≡ behind_values l.more l.rest

abbrev pub decreases-loop-more : goal.decreases-loop-more
decreases-loop-more l = l.more
