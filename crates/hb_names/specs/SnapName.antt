use Rattle.std.specs.Prelude.{ℕ, List}
use Rattle.hb_names.specs.Qualifier.{IsQualifier}

-- a snapshot's name, which obeys the rule of a table's qualifier (HBase Reference Guide, Snapshots)
abbrev pub IsSnapName : List ℕ → Type 0
IsSnapName = IsQualifier
