-- What is written of a record: its fields in the order of their numbers, each once.
use Rattle.std.specs.Prelude.{◌<◌, ◌≤◌, ◌^◌, ℕ, List, [], ◌∷◌, ◌++◌, length, codes, Option, Some, None, IfSome}
use Rattle.wire_fields.specs.Fields.{Part, number, text}
use Rattle.wire_fields.specs.Message.{message_bytes}
use Rattle.hb_names.specs.SnapName.{IsSnapName}
use Rattle.hb_names.specs.TableName.{IsTableName}
use Rattle.hb_records.specs.declared.region_info.RegionInfo.{RegionInfo}
use Rattle.snapshot_records.specs.declared.reference.Reference.{Reference}
use Rattle.snapshot_records.specs.declared.snapshot_info.SnapshotInfo.{SnapshotInfo}
use Rattle.snapshot_records.specs.Reference.{IsSplitRow, half_code, IsReference}
use Rattle.snapshot_records.specs.SnapshotInfo.{flush_code, IsSnapshotInfo}
use Rattle.snapshot_records.specs.RegionInfo.{IsRegionInfo}

abbrev pub reference_parts : Reference → List (ℕ × Part)
reference_parts reference = (1, text reference.row) ∷ (2, number (half_code reference.top)) ∷ []

-- without its prefix, as it stands in a manifest
abbrev pub reference_message : Reference → List ℕ
reference_message reference = message_bytes (reference_parts reference)

abbrev pub reference_bytes : Reference → List ℕ
reference_bytes reference = codes "PBUF" ++ reference_message reference

-- the version of the form is 2
abbrev pub info_parts : SnapshotInfo → List (ℕ × Part)
info_parts info = (1, text info.name) ∷ (2, text info.table) ∷ (3, number info.created) ∷ (4, number (flush_code info.flush)) ∷ (5, number 2) ∷ []

abbrev pub info_bytes : SnapshotInfo → List ℕ
info_bytes info = message_bytes (info_parts info)

abbrev pub table_bytes : List ℕ → List ℕ
table_bytes table = message_bytes ((1, text (codes "default")) ∷ (2, text table) ∷ [])

-- no start is written where a region has no lower bound
abbrev pub start_part : List ℕ → List (ℕ × Part)
start_part [] = []
start_part (b ∷ row) = (3, text (b ∷ row)) ∷ []

abbrev pub end_part : Option (List ℕ) → List (ℕ × Part)
end_part None = []
end_part (Some row) = (4, text row) ∷ []

abbrev pub region_parts : RegionInfo → List (ℕ × Part)
region_parts info = (1, number info.id) ∷ (2, text (table_bytes info.table)) ∷ (start_part info.start ++ end_part info.end)

abbrev pub region_bytes : RegionInfo → List ℕ
region_bytes info = message_bytes (region_parts info)

-- a row that a region can have as a bound
abbrev pub IsRegionRow : List ℕ → Type 0
IsRegionRow row = length row ≤ 32767

-- a region that has a record: its bounds are rows, and its end, where it has one, is of at least a byte
pub record IsWritableRegion (info : RegionInfo) : Type 0 where
  pub id : info.id < 2 ^ 64
  pub table : IsTableName info.table
  pub start : IsRegionRow info.start
  pub end : IfSome info.end IsSplitRow

-- what is written is the record of its value
abbrev pub ReferencesAreWritten : Type 0
ReferencesAreWritten = (reference : Reference) → IsSplitRow reference.row → IsReference (reference_bytes reference) reference

abbrev pub InfosAreWritten : Type 0
InfosAreWritten = (info : SnapshotInfo) → IsSnapName info.name → IsTableName info.table → info.created < 2 ^ 64 → IsSnapshotInfo (info_bytes info) info

abbrev pub RegionsAreWritten : Type 0
RegionsAreWritten = (info : RegionInfo) → IsWritableRegion info → IsRegionInfo (region_bytes info) info
