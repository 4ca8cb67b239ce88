use Rattle.std.proofs.Common.{take}
use Rattle.std.specs.List.{AllByRecursion}
use Rattle.commit_list.specs.ListEntry.{IsEntry}
use Rattle.commit_list.proofs.region_list.are_valid.Given as goal

-- the entries before the index are right
abbrev pub invariant-loop-entry : goal.invariant-loop-entry
invariant-loop-entry l = AllByRecursion IsEntry (take l.entry-index l.entries)
