-- The name of a table in a message (HBase TableName):
--   1 its namespace, which is `default`
--   2 its qualifier, required
use Rattle.std.specs.Prelude.{◌≡◌, ℕ, List, codes, Option, Result}
use Rattle.wire_fields.specs.Fields.{Part}
use Rattle.field_rules.specs.declared.unmade.Unmade.{Unmade}
use Rattle.field_rules.specs.Values.{Text}
use Rattle.field_rules.specs.Rules.{Last, ◌&◌}
use Rattle.field_rules.specs.Record.{need, IsRecord}
use Rattle.hb_names.specs.TableName.{IsTableName}

abbrev pub IsDefault : List ℕ → Type 0
IsDefault bytes = bytes ≡ codes "default"

abbrev pub table_rules : List (ℕ × Part) → Option (List ℕ) × Option (List ℕ) → Type 0
table_rules = Last (Text IsDefault) 1 & Last (Text IsTableName) 2

abbrev pub table_made : Option (List ℕ) × Option (List ℕ) → Result (List ℕ) Unmade
table_made values = need 2 values.1

abbrev pub IsTableMessage : List ℕ → List ℕ → Type 0
IsTableMessage = IsRecord table_rules table_made
