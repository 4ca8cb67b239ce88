-- Bytes with a fault are no record.
use Rattle.std.proofs.Common.{◌≡◌, ◌≢◌, ℕ, ◌⊎◌, Bool, true, false, List, ◌++◌, drop, Option, refl, sym, ap, subst, ◌∙◌, inl, inr}
use Rattle.std.specs.Prelude.{codes}
use Rattle.wire_fields.specs.Fields.{Part, number}
use Rattle.field_rules.specs.Values.{AnyNumber, Inner, Text, OneValue}
use Rattle.field_rules.specs.Rules.{Last, ◌&◌}
use Rattle.field_rules.proofs.OneValues.{OneValue-Number, OneValue-Inner, OneValue-Text, OneValue-Last, OneValue-&, OneValue-IsRecord}
use Rattle.field_reader.specs.declared.fault.RecordError.{RecordError}
use Rattle.field_reader.specs.declared.fault.RecordError.TheVariants.{BadRecord, MissingField, NoMemory}
use Rattle.field_reader.specs.Faults.{IsAt, Whole, Within, Wrong, ◌or◌, Excludes}
use Rattle.field_reader.proofs.Apart.{FieldExcludes, Whole-excludes, Within-excludes, Last-excludes, &-excludes, RecordFault-excludes}
use Rattle.hb_names.specs.SnapName.{IsSnapName}
use Rattle.hb_names.specs.TableName.{IsTableName}
use Rattle.hb_records.specs.declared.region_info.RegionInfo.{RegionInfo}
use Rattle.snapshot_records.specs.declared.reference.Reference.{Reference}
use Rattle.snapshot_records.specs.Reference.{IsSplitRow, half_code, IsHalf, reference_rules, reference_made, IsReferenceMessage, IsReference}
use Rattle.snapshot_records.specs.SnapshotInfo.{flush_code, IsFlush, info_rules, info_made, IsSnapshotInfo}
use Rattle.snapshot_records.specs.TableMessage.{IsDefault, table_rules, table_made, IsTableMessage}
use Rattle.snapshot_records.specs.RegionInfo.{IsBound, region_rules, region_made, IsRegionInfo}
use Rattle.snapshot_messages.specs.Faults.{IsReferenceMessageFault, IsReferenceFault, IsSnapshotInfoFault, IsTableMessageFault, IsRegionInfoFault}

pub one_text : (grammar : List ℕ → Type 0) (id : ℕ) → OneValue (Last (Text grammar) id)
one_text grammar id = OneValue-Last (Text grammar) id (OneValue-Text grammar)

pub one_number : (id : ℕ) → OneValue (Last AnyNumber id)
one_number id = OneValue-Last AnyNumber id (OneValue-Number (λ n. Unit {0}))

pub no_text : (grammar : List ℕ → Type 0) (id : ℕ) → FieldExcludes (Last (Text grammar) id) (λ before. Wrong id (Whole (Text grammar)))
no_text grammar id = Last-excludes (Text grammar) (Whole (Text grammar)) id (Whole-excludes (Text grammar))

pub no_number : (id : ℕ) → FieldExcludes (Last AnyNumber id) (λ before. Wrong id (Whole AnyNumber))
no_number id = Last-excludes AnyNumber (Whole AnyNumber) id (Whole-excludes AnyNumber)

-- ---- references

half_same : (a b : Bool) → number (half_code a) ≡ number (half_code b) → a ≡ b
half_same true true e = refl
half_same true false e = cc
half_same false true e = cc
half_same false false e = refl

one_reference : OneValue reference_rules
one_reference = OneValue-& (Last (Text IsSplitRow) 1) (Last IsHalf 2) (one_text IsSplitRow 1) (OneValue-Last IsHalf 2 (λ x v w a b. half_same v w (sym a ∙ b)))

pub no_reference : (bytes : List ℕ) (place : ℕ) (e : RecordError) (v : Reference) → IsReferenceMessageFault bytes place e → IsReferenceMessage bytes v → e ≡ NoMemory
no_reference = RecordFault-excludes reference_rules (λ before. Wrong 1 (Whole (Text IsSplitRow)) or Wrong 2 (Whole IsHalf)) reference_made one_reference
    (&-excludes (Last (Text IsSplitRow) 1) (Last IsHalf 2) _ _ (no_text IsSplitRow 1) (Last-excludes IsHalf (Whole IsHalf) 2 (Whole-excludes IsHalf)))

pub Excludes-IsReference : Excludes IsReference IsReferenceFault
Excludes-IsReference bytes v e is fault = elim fault [
  | inl none ↦ absurd (none.1 is.rest is.prefix)
  | inr told ↦ let same : told.0 ≡ is.rest = ap (drop 4) (sym told.1 ∙ is.prefix) in
      no_reference is.rest 4 e v (subst (λ r. IsReferenceMessageFault r 4 e) same told.2) is.message
]

-- ---- descriptions

flush_same : (a b : Bool) → number (flush_code a) ≡ number (flush_code b) → a ≡ b
flush_same true true e = refl
flush_same true false e = cc
flush_same false true e = cc
flush_same false false e = refl

one_info : OneValue info_rules
one_info =
    OneValue-& (Last (Text IsSnapName) 1) (Last (Text IsTableName) 2 & (Last AnyNumber 3 & (Last IsFlush 4 & Last AnyNumber 5))) (one_text IsSnapName 1)
    (OneValue-& (Last (Text IsTableName) 2) (Last AnyNumber 3 & (Last IsFlush 4 & Last AnyNumber 5)) (one_text IsTableName 2)
    (OneValue-& (Last AnyNumber 3) (Last IsFlush 4 & Last AnyNumber 5) (one_number 3)
    (OneValue-& (Last IsFlush 4) (Last AnyNumber 5) (OneValue-Last IsFlush 4 (λ x v w a b. flush_same v w (sym a ∙ b))) (one_number 5))))

pub Excludes-IsSnapshotInfo : Excludes IsSnapshotInfo IsSnapshotInfoFault
Excludes-IsSnapshotInfo bytes v e is fault = RecordFault-excludes info_rules
    (λ before. Wrong 1 (Whole (Text IsSnapName)) or (Wrong 2 (Whole (Text IsTableName)) or (Wrong 3 (Whole AnyNumber) or (Wrong 4 (Whole IsFlush) or Wrong 5 (Whole AnyNumber))))) info_made one_info
    (&-excludes (Last (Text IsSnapName) 1) (Last (Text IsTableName) 2 & (Last AnyNumber 3 & (Last IsFlush 4 & Last AnyNumber 5))) _ _ (no_text IsSnapName 1)
    (&-excludes (Last (Text IsTableName) 2) (Last AnyNumber 3 & (Last IsFlush 4 & Last AnyNumber 5)) _ _ (no_text IsTableName 2)
    (&-excludes (Last AnyNumber 3) (Last IsFlush 4 & Last AnyNumber 5) _ _ (no_number 3)
    (&-excludes (Last IsFlush 4) (Last AnyNumber 5) _ _ (Last-excludes IsFlush (Whole IsFlush) 4 (Whole-excludes IsFlush)) (no_number 5)))))
    bytes 0 e v fault is

-- ---- regions

one_table : OneValue table_rules
one_table = OneValue-& (Last (Text IsDefault) 1) (Last (Text IsTableName) 2) (one_text IsDefault 1) (one_text IsTableName 2)

pub no_table : (bytes : List ℕ) (place : ℕ) (e : RecordError) (v : List ℕ) → IsTableMessageFault bytes place e → IsTableMessage bytes v → e ≡ NoMemory
no_table = RecordFault-excludes table_rules (λ before. Wrong 1 (Whole (Text IsDefault)) or Wrong 2 (Whole (Text IsTableName))) table_made one_table
    (&-excludes (Last (Text IsDefault) 1) (Last (Text IsTableName) 2) _ _ (no_text IsDefault 1) (no_text IsTableName 2))

one_region : OneValue region_rules
one_region =
    OneValue-& (Last AnyNumber 1) (Last (Inner IsTableMessage) 2 & (Last (Text IsBound) 3 & Last (Text IsBound) 4)) (one_number 1)
    (OneValue-& (Last (Inner IsTableMessage) 2) (Last (Text IsBound) 3 & Last (Text IsBound) 4)
    (OneValue-Last (Inner IsTableMessage) 2 (OneValue-Inner IsTableMessage (OneValue-IsRecord table_rules table_made one_table)))
    (OneValue-& (Last (Text IsBound) 3) (Last (Text IsBound) 4) (one_text IsBound 3) (one_text IsBound 4)))

pub no_region : (bytes : List ℕ) (place : ℕ) (e : RecordError) (v : RegionInfo) → IsRegionInfoFault bytes place e → IsRegionInfo bytes v → e ≡ NoMemory
no_region = RecordFault-excludes region_rules
    (λ before. Wrong 1 (Whole AnyNumber) or (Wrong 2 (Within IsTableMessageFault) or (Wrong 3 (Whole (Text IsBound)) or Wrong 4 (Whole (Text IsBound))))) region_made one_region
    (&-excludes (Last AnyNumber 1) (Last (Inner IsTableMessage) 2 & (Last (Text IsBound) 3 & Last (Text IsBound) 4)) _ _ (no_number 1)
    (&-excludes (Last (Inner IsTableMessage) 2) (Last (Text IsBound) 3 & Last (Text IsBound) 4) _ _
    (Last-excludes (Inner IsTableMessage) (Within IsTableMessageFault) 2 (Within-excludes IsTableMessage IsTableMessageFault no_table))
    (&-excludes (Last (Text IsBound) 3) (Last (Text IsBound) 4) _ _ (no_text IsBound 3) (no_text IsBound 4))))

pub Excludes-IsRegionInfo : Excludes IsRegionInfo (λ bytes. IsRegionInfoFault bytes 0)
Excludes-IsRegionInfo bytes v e is fault = no_region bytes 0 e v fault is
