use Rattle.std.proofs.Common.{◌≡◌, drop}
use Rattle.std.specs.FinMap.{get}
use Rattle.plain_tables.specs.ByName.{by_name}
use Rattle.plain_tables.proofs.tables.table_at.Given as goal

-- the entries passed are of other names
abbrev pub invariant-loop-entry : goal.invariant-loop-entry
invariant-loop-entry l = get (by_name (drop l.entry-index l.tables)) l.name ≡ get (by_name l.tables) l.name
