-- Bytes are the record of one value at most.
use Rattle.std.proofs.Common.{◌≡◌, ℕ, ◌≤◌, Bool, true, false, List, drop, Option, Some, None, refl, sym, ap, subst, ◌∙◌, arith}
use Rattle.std.proofs.lemmas.Fmt.{decimal_injective}
use Rattle.wire_fields.specs.Fields.{number}
use Rattle.field_rules.specs.Values.{Number, AnyNumber, Inner, Text, AnyText, OneValue}
use Rattle.field_rules.specs.Rules.{Last, Repeated, Rising, ◌&◌}
use Rattle.field_rules.proofs.OneValues.{OneValue-Number, OneValue-Inner, OneValue-Text, OneValue-Repeated, OneValue-Last, OneValue-Rising, OneValue-&, OneValue-IsRecord}
use Rattle.hb_names.specs.SnapName.{IsSnapName}
use Rattle.hb_names.specs.TableName.{IsTableName}
use Rattle.hb_names.specs.FamilyName.{IsFamilyName}
use Rattle.snapshot_records.specs.Reference.{IsSplitRow, half_code, IsHalf, reference_rules, reference_made, IsReferenceMessage, IsReference}
use Rattle.snapshot_records.specs.SnapshotInfo.{flush_code, IsFlush, info_rules, info_made, IsSnapshotInfo}
use Rattle.snapshot_records.specs.TableMessage.{IsDefault, table_rules, table_made, IsTableMessage}
use Rattle.snapshot_records.specs.RegionInfo.{IsBound, region_rules, region_made, IsRegionInfo}
use Rattle.snapshot_records.specs.Schema.{attribute_rules, attribute_made, TellsVersions, IsAttribute, family_rules, family_made, IsFamilySchema, schema_rules, schema_made, IsTableSchema}
use Rattle.snapshot_records.specs.Files.{IsEntryName, file_rules, file_made, IsFile, files_rules, files_made, IsFamilyFiles}
use Rattle.snapshot_records.specs.Manifest.{IsSeq, part_rules, part_made, IsRegionManifest, manifest_rules, manifest_made, IsManifest}

-- ---- references

half_same : (a b : Bool) → number (half_code a) ≡ number (half_code b) → a ≡ b
half_same true true e = refl
half_same true false e = cc
half_same false true e = cc
half_same false false e = refl

pub OneValue-IsHalf : OneValue IsHalf
OneValue-IsHalf x v w a b = half_same v w (sym a ∙ b)

pub OneValue-IsReferenceMessage : OneValue IsReferenceMessage
OneValue-IsReferenceMessage = OneValue-IsRecord reference_rules reference_made
    (OneValue-& (Last (Text IsSplitRow) 1) (Last IsHalf 2) (OneValue-Last (Text IsSplitRow) 1 (OneValue-Text IsSplitRow)) (OneValue-Last IsHalf 2 OneValue-IsHalf))

pub OneValue-IsReference : OneValue IsReference
OneValue-IsReference bytes v w a b =
    let rest : a.rest ≡ b.rest = ap (drop 4) (sym a.prefix ∙ b.prefix) in
    OneValue-IsReferenceMessage b.rest v w (subst (λ r. IsReferenceMessage r v) rest a.message) b.message

-- ---- descriptions

flush_same : (a b : Bool) → number (flush_code a) ≡ number (flush_code b) → a ≡ b
flush_same true true e = refl
flush_same true false e = cc
flush_same false true e = cc
flush_same false false e = refl

pub OneValue-IsFlush : OneValue IsFlush
OneValue-IsFlush x v w a b = flush_same v w (sym a ∙ b)

pub OneValue-AnyNumber : (id : ℕ) → OneValue (Last AnyNumber id)
OneValue-AnyNumber id = OneValue-Last AnyNumber id (OneValue-Number (λ n. Unit {0}))

pub OneValue-LastText : (grammar : List ℕ → Type 0) (id : ℕ) → OneValue (Last (Text grammar) id)
OneValue-LastText grammar id = OneValue-Last (Text grammar) id (OneValue-Text grammar)

pub OneValue-IsSnapshotInfo : OneValue IsSnapshotInfo
OneValue-IsSnapshotInfo = OneValue-IsRecord info_rules info_made
    (OneValue-& (Last (Text IsSnapName) 1) (Last (Text IsTableName) 2 & (Last AnyNumber 3 & (Last IsFlush 4 & Last AnyNumber 5))) (OneValue-LastText IsSnapName 1)
    (OneValue-& (Last (Text IsTableName) 2) (Last AnyNumber 3 & (Last IsFlush 4 & Last AnyNumber 5)) (OneValue-LastText IsTableName 2)
    (OneValue-& (Last AnyNumber 3) (Last IsFlush 4 & Last AnyNumber 5) (OneValue-AnyNumber 3)
    (OneValue-& (Last IsFlush 4) (Last AnyNumber 5) (OneValue-Last IsFlush 4 OneValue-IsFlush) (OneValue-AnyNumber 5)))))

-- ---- regions

pub OneValue-LastInner : {V : Type 0} (spells : List ℕ → V → Type 0) (id : ℕ) → OneValue spells → OneValue (Last (Inner spells) id)
OneValue-LastInner spells id one = OneValue-Last (Inner spells) id (OneValue-Inner spells one)

pub OneValue-RepeatedInner : {V : Type 0} (spells : List ℕ → V → Type 0) (id : ℕ) → OneValue spells → OneValue (Repeated (Inner spells) id)
OneValue-RepeatedInner spells id one = OneValue-Repeated (Inner spells) id (OneValue-Inner spells one)

pub OneValue-IsTableMessage : OneValue IsTableMessage
OneValue-IsTableMessage = OneValue-IsRecord table_rules table_made
    (OneValue-& (Last (Text IsDefault) 1) (Last (Text IsTableName) 2) (OneValue-LastText IsDefault 1) (OneValue-LastText IsTableName 2))

pub OneValue-IsRegionInfo : OneValue IsRegionInfo
OneValue-IsRegionInfo = OneValue-IsRecord region_rules region_made
    (OneValue-& (Last AnyNumber 1) (Last (Inner IsTableMessage) 2 & (Last (Text IsBound) 3 & Last (Text IsBound) 4)) (OneValue-AnyNumber 1)
    (OneValue-& (Last (Inner IsTableMessage) 2) (Last (Text IsBound) 3 & Last (Text IsBound) 4) (OneValue-LastInner IsTableMessage 2 OneValue-IsTableMessage)
    (OneValue-& (Last (Text IsBound) 3) (Last (Text IsBound) 4) (OneValue-LastText IsBound 3) (OneValue-LastText IsBound 4))))

-- ---- schemas

pub OneValue-TellsVersions : (attribute : List ℕ × List ℕ) (v w : Option ℕ) → TellsVersions attribute v → TellsVersions attribute w → v ≡ w
OneValue-TellsVersions attribute None None a b = refl
OneValue-TellsVersions attribute None (Some n) a b = absurd (a b.0)
OneValue-TellsVersions attribute (Some m) None a b = absurd (b a.0)
OneValue-TellsVersions attribute (Some m) (Some n) a b =
    let small : m ≤ 2147483647 = a.3 in
    let small' : n ≤ 2147483647 = b.3 in
    ap (λ (k : ℕ). Some k) (decimal_injective m n (omega arith) (omega arith) (sym a.1 ∙ b.1))

pub OneValue-IsAttribute : OneValue IsAttribute
OneValue-IsAttribute bytes v w a b =
    let one = OneValue-IsRecord attribute_rules attribute_made (OneValue-& (Last AnyText 1) (Last AnyText 2) (OneValue-LastText (λ t. Unit {0}) 1) (OneValue-LastText (λ t. Unit {0}) 2)) in
    let same = one bytes a.attribute b.attribute a.message b.message in
    OneValue-TellsVersions b.attribute v w (subst (λ (x : List ℕ × List ℕ). TellsVersions x v) same a.tells) b.tells

pub OneValue-IsFamilySchema : OneValue IsFamilySchema
OneValue-IsFamilySchema = OneValue-IsRecord family_rules family_made
    (OneValue-& (Last (Text IsFamilyName) 1) (Repeated (Inner IsAttribute) 2) (OneValue-LastText IsFamilyName 1) (OneValue-RepeatedInner IsAttribute 2 OneValue-IsAttribute))

pub OneValue-IsTableSchema : OneValue IsTableSchema
OneValue-IsTableSchema = OneValue-IsRecord schema_rules schema_made
    (OneValue-& (Last (Inner IsTableMessage) 1) (Repeated (Inner IsFamilySchema) 3) (OneValue-LastInner IsTableMessage 1 OneValue-IsTableMessage) (OneValue-RepeatedInner IsFamilySchema 3 OneValue-IsFamilySchema))

-- ---- files and manifests

pub OneValue-IsEntryName : OneValue IsEntryName
OneValue-IsEntryName bytes (v, true) (w, true) a b = let same = a.0 ∙ sym b.0 in λ i. (same i, true)
OneValue-IsEntryName bytes (v, true) (w, false) a b = absurd (b.2 a.1)
OneValue-IsEntryName bytes (v, false) (w, true) a b = absurd (a.2 b.1)
OneValue-IsEntryName bytes (v, false) (w, false) a b = let same = a.0 ∙ sym b.0 in λ i. (same i, false)

pub OneValue-IsFile : OneValue IsFile
OneValue-IsFile = OneValue-IsRecord file_rules file_made
    (OneValue-& (Last (Inner IsEntryName) 1) (Last (Inner IsReferenceMessage) 2 & Last AnyNumber 3) (OneValue-LastInner IsEntryName 1 OneValue-IsEntryName)
    (OneValue-& (Last (Inner IsReferenceMessage) 2) (Last AnyNumber 3) (OneValue-LastInner IsReferenceMessage 2 OneValue-IsReferenceMessage) (OneValue-AnyNumber 3)))

pub OneValue-IsFamilyFiles : OneValue IsFamilyFiles
OneValue-IsFamilyFiles = OneValue-IsRecord files_rules files_made
    (OneValue-& (Last (Text IsFamilyName) 1) (Repeated (Inner IsFile) 2) (OneValue-LastText IsFamilyName 1) (OneValue-RepeatedInner IsFile 2 OneValue-IsFile))

pub OneValue-IsRegionManifest : OneValue IsRegionManifest
OneValue-IsRegionManifest = OneValue-IsRecord part_rules part_made
    (OneValue-& (Last AnyNumber 1) (Last (Inner IsRegionInfo) 2 & (Rising (Inner IsFamilyFiles) 3 & Last (Number IsSeq) 100)) (OneValue-AnyNumber 1)
    (OneValue-& (Last (Inner IsRegionInfo) 2) (Rising (Inner IsFamilyFiles) 3 & Last (Number IsSeq) 100) (OneValue-LastInner IsRegionInfo 2 OneValue-IsRegionInfo)
    (OneValue-& (Rising (Inner IsFamilyFiles) 3) (Last (Number IsSeq) 100) (OneValue-Rising (Inner IsFamilyFiles) 3 (OneValue-Inner IsFamilyFiles OneValue-IsFamilyFiles)) (OneValue-Last (Number IsSeq) 100 (OneValue-Number IsSeq)))))

pub OneValue-IsManifest : OneValue IsManifest
OneValue-IsManifest = OneValue-IsRecord manifest_rules manifest_made
    (OneValue-& (Last (Inner IsTableSchema) 1) (Repeated (Inner IsRegionManifest) 2) (OneValue-LastInner IsTableSchema 1 OneValue-IsTableSchema) (OneValue-RepeatedInner IsRegionManifest 2 OneValue-IsRegionManifest))
