-- The schema of a table (HBase TableSchema, ColumnFamilySchema, BytesBytesPair):
--   1 its table, required
--   3 a family, repeated:
--       1 its name, required
--       2 an attribute, repeated: 1 its name, required, and 2 its value, or no bytes
-- Of the attributes VERSIONS alone is read: in decimal how many versions of a cell a read shows; of several the last
-- counts, and without one it is 1.
use Rattle.std.specs.Prelude.{◌≡◌, ◌≢◌, ◌≤◌, ℕ, List, [], ◌∷◌, codes, Option, Some, None, unwrap_or, Result, Ok}
use Rattle.std.specs.Fmt.{decimal}
use Rattle.wire_fields.specs.Fields.{Part}
use Rattle.wire_fields.specs.Message.{later}
use Rattle.field_rules.specs.declared.unmade.Unmade.{Unmade}
use Rattle.field_rules.specs.Values.{Text, AnyText, Inner}
use Rattle.field_rules.specs.Rules.{Last, Repeated, ◌&◌}
use Rattle.field_rules.specs.Record.{◌>>=◌, need, IsRecord}
use Rattle.hb_names.specs.FamilyName.{IsFamilyName}
use Rattle.hb_records.specs.declared.table_schema.TableSchema.{TableSchema}
use Rattle.snapshot_records.specs.declared.manifest.TheConstants.{MAX_VERSIONS}
use Rattle.snapshot_records.specs.TableMessage.{IsTableMessage}

abbrev pub attribute_rules : List (ℕ × Part) → Option (List ℕ) × Option (List ℕ) → Type 0
attribute_rules = Last AnyText 1 & Last AnyText 2

abbrev pub attribute_made : Option (List ℕ) × Option (List ℕ) → Result (List ℕ × List ℕ) Unmade
attribute_made values = do
  name ← need 1 values.0
  Ok (name, unwrap_or values.1 [])

-- the count of versions that an attribute tells, from 1 to 2 ^ 31 - 1, where it is VERSIONS
abbrev pub TellsVersions : List ℕ × List ℕ → Option ℕ → Type 0
TellsVersions attribute None = attribute.0 ≢ codes "VERSIONS"
TellsVersions attribute (Some versions) =
    (attribute.0 ≡ codes "VERSIONS") × (attribute.1 ≡ decimal versions) × (1 ≤ versions) × (versions ≤ MAX_VERSIONS)

pub record IsAttribute (bytes : List ℕ) (versions : Option ℕ) : Type 0 where
  pub attribute : List ℕ × List ℕ
  pub message : IsRecord attribute_rules attribute_made bytes attribute
  pub tells : TellsVersions attribute versions

-- the last of the values that there are
abbrev pub latest : List (Option ℕ) → Option ℕ
latest [] = None
latest (v ∷ vs) = later v (latest vs)

abbrev pub family_rules : List (ℕ × Part) → Option (List ℕ) × List (Option ℕ) → Type 0
family_rules = Last (Text IsFamilyName) 1 & Repeated (Inner IsAttribute) 2

abbrev pub family_made : Option (List ℕ) × List (Option ℕ) → Result (List ℕ × ℕ) Unmade
family_made values = do
  name ← need 1 values.0
  Ok (name, unwrap_or (latest values.1) 1)

abbrev pub IsFamilySchema : List ℕ → List ℕ × ℕ → Type 0
IsFamilySchema = IsRecord family_rules family_made

abbrev pub schema_rules : List (ℕ × Part) → Option (List ℕ) × List (List ℕ × ℕ) → Type 0
schema_rules = Last (Inner IsTableMessage) 1 & Repeated (Inner IsFamilySchema) 3

abbrev pub schema_made : Option (List ℕ) × List (List ℕ × ℕ) → Result TableSchema Unmade
schema_made values = do
  table ← need 1 values.0
  Ok (record { table = table; families = values.1 })

abbrev pub IsTableSchema : List ℕ → TableSchema → Type 0
IsTableSchema = IsRecord schema_rules schema_made
