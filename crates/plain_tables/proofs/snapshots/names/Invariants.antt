use Rattle.std.proofs.Common.{◌≡◌, ◌++◌}
use Rattle.std.specs.FinMap.{keys}
use Rattle.plain_tables.specs.ByName.{by_entry}
use Rattle.plain_tables.proofs.snapshots.names.Given as goal

-- the names so far and those still to come are those of all snapshots
abbrev pub invariant-loop-name : goal.invariant-loop-name
invariant-loop-name l = l.names.items ++ l.name-iterator ≡ keys (by_entry l.snapshots.entries)
