-- The description of a snapshot (HBase SnapshotDescription):
--   1 its name, required
--   2 its table, required
--   3 when it was made, or 0
--   4 how: DISABLED 0 or FLUSH 1, which it is where it does not say
--   5 the version of the form
use Rattle.std.specs.Prelude.{◌≡◌, ℕ, List, Bool, true, false, Option, unwrap_or, Result, Ok}
use Rattle.wire_fields.specs.Fields.{Part, number}
use Rattle.field_rules.specs.declared.unmade.Unmade.{Unmade}
use Rattle.field_rules.specs.Values.{Text, AnyNumber}
use Rattle.field_rules.specs.Rules.{Last, ◌&◌}
use Rattle.field_rules.specs.Record.{◌>>=◌, need, IsRecord}
use Rattle.hb_names.specs.SnapName.{IsSnapName}
use Rattle.hb_names.specs.TableName.{IsTableName}
use Rattle.snapshot_records.specs.declared.snapshot_info.SnapshotInfo.{SnapshotInfo}

-- the code of how a snapshot was made
abbrev pub flush_code : Bool → ℕ
flush_code true = 1
flush_code false = 0

abbrev pub IsFlush : Part → Bool → Type 0
IsFlush x flush = x ≡ number (flush_code flush)

abbrev pub InfoValues : Type 0
InfoValues = Option (List ℕ) × (Option (List ℕ) × (Option ℕ × (Option Bool × Option ℕ)))

abbrev pub info_rules : List (ℕ × Part) → InfoValues → Type 0
info_rules = Last (Text IsSnapName) 1 & (Last (Text IsTableName) 2 & (Last AnyNumber 3 & (Last IsFlush 4 & Last AnyNumber 5)))

abbrev pub info_made : InfoValues → Result SnapshotInfo Unmade
info_made (name, (table, (created, (flush, version)))) = do
  name ← need 1 name
  table ← need 2 table
  Ok (record { name = name; table = table; created = unwrap_or created 0; flush = unwrap_or flush true })

abbrev pub IsSnapshotInfo : List ℕ → SnapshotInfo → Type 0
IsSnapshotInfo = IsRecord info_rules info_made
