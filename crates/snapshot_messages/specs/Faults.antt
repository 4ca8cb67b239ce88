-- Where bytes are no reference, no description of a snapshot, and no region.
use Rattle.std.specs.Prelude.{◌≡◌, ◌≢◌, ◌⊎◌, ℕ, List, ◌++◌, codes}
use Rattle.wire_fields.specs.Fields.{Part}
use Rattle.field_rules.specs.Values.{Text, Inner, AnyNumber}
use Rattle.field_reader.specs.declared.fault.RecordError.{RecordError}
use Rattle.field_reader.specs.declared.fault.RecordError.TheVariants.{BadRecord, MissingField, NoMemory}
use Rattle.field_reader.specs.Faults.{IsAt, Whole, Within, Wrong, ◌or◌, RecordFault}
use Rattle.hb_names.specs.SnapName.{IsSnapName}
use Rattle.hb_names.specs.TableName.{IsTableName}
use Rattle.snapshot_records.specs.Reference.{IsSplitRow, IsHalf, reference_rules, reference_made}
use Rattle.snapshot_records.specs.SnapshotInfo.{IsFlush, info_rules, info_made}
use Rattle.snapshot_records.specs.TableMessage.{IsDefault, table_rules, table_made}
use Rattle.snapshot_records.specs.RegionInfo.{IsBound, region_rules, region_made}

abbrev pub IsReferenceMessageFault : List ℕ → ℕ → RecordError → Type 0
IsReferenceMessageFault = RecordFault reference_rules (λ parts. Wrong 1 (Whole (Text IsSplitRow)) or Wrong 2 (Whole IsHalf)) reference_made

-- the bytes do not begin with the prefix, or what stands behind it is at fault
abbrev pub IsReferenceFault : List ℕ → RecordError → Type 0
IsReferenceFault bytes e =
    (IsAt 0 e × ((rest : List ℕ) → bytes ≢ codes "PBUF" ++ rest)) ⊎ ((rest : List ℕ) × (bytes ≡ codes "PBUF" ++ rest) × IsReferenceMessageFault rest 4 e)

abbrev pub IsSnapshotInfoFault : List ℕ → RecordError → Type 0
IsSnapshotInfoFault bytes = RecordFault info_rules
    (λ parts. Wrong 1 (Whole (Text IsSnapName)) or (Wrong 2 (Whole (Text IsTableName)) or (Wrong 3 (Whole AnyNumber) or (Wrong 4 (Whole IsFlush) or Wrong 5 (Whole AnyNumber)))))
    info_made bytes 0

abbrev pub IsTableMessageFault : List ℕ → ℕ → RecordError → Type 0
IsTableMessageFault = RecordFault table_rules (λ parts. Wrong 1 (Whole (Text IsDefault)) or Wrong 2 (Whole (Text IsTableName))) table_made

abbrev pub IsRegionInfoFault : List ℕ → ℕ → RecordError → Type 0
IsRegionInfoFault = RecordFault region_rules
    (λ parts. Wrong 1 (Whole AnyNumber) or (Wrong 2 (Within IsTableMessageFault) or (Wrong 3 (Whole (Text IsBound)) or Wrong 4 (Whole (Text IsBound)))))
    region_made
