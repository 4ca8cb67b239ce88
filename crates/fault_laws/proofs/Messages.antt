-- Each message has one fault.
use Rattle.std.proofs.Common.{◌≡◌, ℕ, ◌⊎◌, List, [], ◌∷◌, ◌++◌, drop, Option, refl, sym, ap, subst, ◌∙◌, inl, inr}
use Rattle.wire_fields.specs.Fields.{Part, number, eight, four, text}
use Rattle.field_rules.specs.Values.{AnyNumber, AnyText, Number, Inner, Text, OneValue}
use Rattle.field_rules.specs.Rules.{Last, Repeated, Rising, ◌&◌}
use Rattle.field_rules.proofs.OneValues.{OneValue-Number, OneValue-Text, OneValue-Inner, OneValue-Rising}
use Rattle.field_reader.specs.declared.fault.RecordError.{RecordError}
use Rattle.field_reader.specs.declared.fault.RecordError.TheVariants.{BadRecord, MissingField, NoMemory}
use Rattle.field_reader.specs.Faults.{IsAt, Whole, Within, Wrong, ◌or◌, RecordFault}
use Rattle.hb_names.specs.SnapName.{IsSnapName}
use Rattle.hb_names.specs.TableName.{IsTableName}
use Rattle.snapshot_records.specs.Reference.{IsSplitRow, IsHalf, reference_rules, reference_made, IsReferenceMessage}
use Rattle.snapshot_records.specs.SnapshotInfo.{IsFlush, info_rules, info_made}
use Rattle.snapshot_records.specs.TableMessage.{IsDefault, table_rules, table_made, IsTableMessage}
use Rattle.snapshot_records.specs.RegionInfo.{IsBound, region_rules, region_made, IsRegionInfo}
use Rattle.snapshot_records.proofs.Told.{OneValue-IsHalf, OneValue-IsFlush}
use Rattle.snapshot_messages.specs.Faults.{IsReferenceMessageFault, IsReferenceFault, IsSnapshotInfoFault, IsTableMessageFault, IsRegionInfoFault}
use Rattle.fault_laws.specs.One.{IsSame, HasOne}
use Rattle.fault_laws.proofs.Ones.{IsSame-sym, IsSame-at, IsValueTold, IsMessageTold, IsTold, Has, Whole-told, Within-told, wrong_numbered, wrong_alike, Last-told, Repeated-told, &-told, Record-told}

last_text : (grammar : List ℕ → Type 0) (id : ℕ) → IsTold (Last (Text grammar) id) (λ before. Wrong id (Whole (Text grammar))) (id ∷ [])
last_text grammar id = Last-told (Text grammar) (Whole (Text grammar)) id (Whole-told (Text grammar) (OneValue-Text grammar))

last_number : (id : ℕ) → IsTold (Last AnyNumber id) (λ before. Wrong id (Whole AnyNumber)) (id ∷ [])
last_number id = Last-told AnyNumber (Whole AnyNumber) id (Whole-told AnyNumber (OneValue-Number (λ n. Unit {0})))

last_inner : {V : Type 0} (spells : List ℕ → V → Type 0) (fault : List ℕ → ℕ → RecordError → Type 0) (id : ℕ) → IsMessageTold spells fault → IsTold (Last (Inner spells) id) (λ before. Wrong id (Within fault)) (id ∷ [])
last_inner spells fault id told = Last-told (Inner spells) (Within fault) id (Within-told spells fault told)

repeated_inner : {V : Type 0} (spells : List ℕ → V → Type 0) (fault : List ℕ → ℕ → RecordError → Type 0) (id : ℕ) → IsMessageTold spells fault → IsTold (Repeated (Inner spells) id) (λ before. Wrong id (Within fault)) (id ∷ [])
repeated_inner spells fault id told = Repeated-told (Inner spells) (Within fault) id (Within-told spells fault told)

-- ---- references, descriptions and regions

told_reference : IsMessageTold IsReferenceMessage IsReferenceMessageFault
told_reference = Record-told reference_rules (λ parts. Wrong 1 (Whole (Text IsSplitRow)) or Wrong 2 (Whole IsHalf)) (1 ∷ 2 ∷ []) reference_made
    (&-told (Last (Text IsSplitRow) 1) (Last IsHalf 2) _ _ 1 (2 ∷ []) refl (last_text IsSplitRow 1) (Last-told IsHalf (Whole IsHalf) 2 (Whole-told IsHalf OneValue-IsHalf)))

told_table : IsMessageTold IsTableMessage IsTableMessageFault
told_table = Record-told table_rules (λ parts. Wrong 1 (Whole (Text IsDefault)) or Wrong 2 (Whole (Text IsTableName))) (1 ∷ 2 ∷ []) table_made
    (&-told (Last (Text IsDefault) 1) (Last (Text IsTableName) 2) _ _ 1 (2 ∷ []) refl (last_text IsDefault 1) (last_text IsTableName 2))

told_region : IsMessageTold IsRegionInfo IsRegionInfoFault
told_region = Record-told region_rules
    (λ parts. Wrong 1 (Whole AnyNumber) or (Wrong 2 (Within IsTableMessageFault) or (Wrong 3 (Whole (Text IsBound)) or Wrong 4 (Whole (Text IsBound))))) (1 ∷ 2 ∷ 3 ∷ 4 ∷ []) region_made
    (&-told (Last AnyNumber 1) (Last (Inner IsTableMessage) 2 & (Last (Text IsBound) 3 & Last (Text IsBound) 4)) _ _ 1 (2 ∷ 3 ∷ 4 ∷ []) refl (last_number 1)
    (&-told (Last (Inner IsTableMessage) 2) (Last (Text IsBound) 3 & Last (Text IsBound) 4) _ _ 2 (3 ∷ 4 ∷ []) refl (last_inner IsTableMessage IsTableMessageFault 2 told_table)
    (&-told (Last (Text IsBound) 3) (Last (Text IsBound) 4) _ _ 3 (4 ∷ []) refl (last_text IsBound 3) (last_text IsBound 4))))

pub HasOne-IsReferenceFault : HasOne IsReferenceFault
HasOne-IsReferenceFault bytes e f (inl a) (inl b) = IsSame-at 0 e f a.0 b.0
HasOne-IsReferenceFault bytes e f (inl a) (inr b) = absurd (a.1 b.0 b.1)
HasOne-IsReferenceFault bytes e f (inr a) (inl b) = absurd (b.1 a.0 a.1)
HasOne-IsReferenceFault bytes e f (inr a) (inr b) =
    let rests : a.0 ≡ b.0 = ap (drop 4) (sym a.1 ∙ b.1) in
    told_reference.alike b.0 4 e f (subst (λ r. IsReferenceMessageFault r 4 e) rests a.2) b.2

pub HasOne-IsSnapshotInfoFault : HasOne IsSnapshotInfoFault
HasOne-IsSnapshotInfoFault bytes e f a b =
    let told = Record-told info_rules
    (λ parts. Wrong 1 (Whole (Text IsSnapName)) or (Wrong 2 (Whole (Text IsTableName)) or (Wrong 3 (Whole AnyNumber) or (Wrong 4 (Whole IsFlush) or Wrong 5 (Whole AnyNumber))))) (1 ∷ 2 ∷ 3 ∷ 4 ∷ 5 ∷ []) info_made
    (&-told (Last (Text IsSnapName) 1) (Last (Text IsTableName) 2 & (Last AnyNumber 3 & (Last IsFlush 4 & Last AnyNumber 5))) _ _ 1 (2 ∷ 3 ∷ 4 ∷ 5 ∷ []) refl (last_text IsSnapName 1)
    (&-told (Last (Text IsTableName) 2) (Last AnyNumber 3 & (Last IsFlush 4 & Last AnyNumber 5)) _ _ 2 (3 ∷ 4 ∷ 5 ∷ []) refl (last_text IsTableName 2)
    (&-told (Last AnyNumber 3) (Last IsFlush 4 & Last AnyNumber 5) _ _ 3 (4 ∷ 5 ∷ []) refl (last_number 3)
    (&-told (Last IsFlush 4) (Last AnyNumber 5) _ _ 4 (5 ∷ []) refl (Last-told IsFlush (Whole IsFlush) 4 (Whole-told IsFlush OneValue-IsFlush)) (last_number 5))))) in
    told.alike bytes 0 e f a b

pub HasOne-IsRegionInfoFault : HasOne (λ bytes. IsRegionInfoFault bytes 0)
HasOne-IsRegionInfoFault bytes e f a b = told_region.alike bytes 0 e f a b
