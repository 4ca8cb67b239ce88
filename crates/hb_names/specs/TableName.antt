use Rattle.std.specs.Prelude.{ℕ, List}
use Rattle.hb_names.specs.Qualifier.{IsQualifier}

-- a table's name
abbrev pub IsTableName : List ℕ → Type 0
IsTableName = IsQualifier
