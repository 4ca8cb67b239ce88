-- Bytes with a fault are no manifest.
use Rattle.std.proofs.Common.{◌≡◌, ℕ, Bool, cond, List, [], ◌∷◌, ◌++◌, refl, sym, ap, subst, inl, inr, append_assoc}
use Rattle.std.proofs.lemmas.Bool.{eq-eqb}
use Rattle.std.specs.Ordering.{nat_cmp, on}
use Rattle.std.specs.Cmp.Lexicographic.{slice_cmp}
use Rattle.wire_fields.specs.Fields.{Part, number, eight, four, text}
use Rattle.field_rules.specs.Values.{AnyNumber, AnyText, Number, Inner, Text, OneValue}
use Rattle.field_rules.specs.Rules.{values_of, Spell, Last, Repeated, Rising, ◌&◌}
use Rattle.field_rules.proofs.OneValues.{OneValue-Number, OneValue-Inner, OneValue-Last, OneValue-Rising, OneValue-&, OneValue-IsRecord}
use Rattle.field_reader.specs.declared.fault.RecordError.{RecordError}
use Rattle.field_reader.specs.declared.fault.RecordError.TheVariants.{BadRecord, MissingField, NoMemory}
use Rattle.field_reader.specs.Faults.{Whole, Within, Wrong, ◌or◌, Excludes}
use Rattle.field_reader.proofs.Apart.{FieldExcludes, ValueExcludes, Whole-excludes, Within-excludes, Last-excludes, Repeated-excludes, &-excludes, RecordFault-excludes, values_of-append}
use Rattle.hb_names.specs.FamilyName.{IsFamilyName}
use Rattle.hb_records.specs.declared.table_schema.TableSchema.{TableSchema}
use Rattle.snapshot_records.specs.declared.manifest.RegionManifest.{RegionManifest}
use Rattle.snapshot_records.specs.Reference.{IsReferenceMessage}
use Rattle.snapshot_records.specs.TableMessage.{IsTableMessage}
use Rattle.snapshot_records.specs.RegionInfo.{IsRegionInfo}
use Rattle.snapshot_records.specs.Schema.{attribute_rules, attribute_made, TellsVersions, IsAttribute, family_rules, family_made, IsFamilySchema, schema_rules, schema_made, IsTableSchema}
use Rattle.snapshot_records.specs.Files.{File, IsEntryName, file_rules, file_made, IsFile, files_rules, files_made, IsFamilyFiles}
use Rattle.snapshot_records.specs.Manifest.{IsSeq, part_rules, part_made, IsRegionManifest, manifest_rules, manifest_made, IsManifest}
use Rattle.snapshot_records.proofs.Told.{OneValue-LastInner, OneValue-RepeatedInner, OneValue-AnyNumber, OneValue-LastText, OneValue-IsTableMessage, OneValue-IsRegionInfo, OneValue-IsReferenceMessage, OneValue-IsAttribute, OneValue-IsFamilySchema, OneValue-IsTableSchema, OneValue-IsEntryName, OneValue-IsFile, OneValue-IsFamilyFiles, OneValue-IsRegionManifest}
use Rattle.snapshot_messages.specs.Faults.{IsReferenceMessageFault, IsTableMessageFault, IsRegionInfoFault}
use Rattle.snapshot_messages.proofs.Told.{no_text, no_number, no_reference, no_table, no_region}
use Rattle.manifest_messages.specs.Faults.{IsPair, IsPairFault, IsAttributeFault, IsFamilySchemaFault, IsTableSchemaFault, IsFileFault, IsFamilyFilesFault, AreRising, IsOutOfOrder, WrongFamily, wrong_part, IsRegionManifestFault, IsManifestFault}
use Rattle.manifest_messages.proofs.Rises.{rising-front}
use Rattle.manifest_messages.proofs.Rising.{no_rise}

-- a last field that is a message, and a repeated one
no_last : {V : Type 0} (spells : List ℕ → V → Type 0) (fault : List ℕ → ℕ → RecordError → Type 0) (id : ℕ)
    → ((bytes : List ℕ) (place : ℕ) (e : RecordError) (v : V) → fault bytes place e → spells bytes v → e ≡ NoMemory) → FieldExcludes (Last (Inner spells) id) (λ before. Wrong id (Within fault))
no_last spells fault id apart = Last-excludes (Inner spells) (Within fault) id (Within-excludes spells fault apart)

no_repeated : {V : Type 0} (spells : List ℕ → V → Type 0) (fault : List ℕ → ℕ → RecordError → Type 0) (id : ℕ)
    → ((bytes : List ℕ) (place : ℕ) (e : RecordError) (v : V) → fault bytes place e → spells bytes v → e ≡ NoMemory) → FieldExcludes (Repeated (Inner spells) id) (λ before. Wrong id (Within fault))
no_repeated spells fault id apart = Repeated-excludes (Inner spells) (Within fault) id (Within-excludes spells fault apart)

-- ---- schemas

one_pair : OneValue attribute_rules
one_pair = OneValue-& (Last AnyText 1) (Last AnyText 2) (OneValue-LastText (λ t. Unit {0}) 1) (OneValue-LastText (λ t. Unit {0}) 2)

no_pair : (bytes : List ℕ) (place : ℕ) (e : RecordError) (v : List ℕ × List ℕ) → IsPairFault bytes place e → IsPair bytes v → e ≡ NoMemory
no_pair = RecordFault-excludes attribute_rules (λ before. Wrong 1 (Whole AnyText) or Wrong 2 (Whole AnyText)) attribute_made one_pair
    (&-excludes (Last AnyText 1) (Last AnyText 2) _ _ (no_text (λ t. Unit {0}) 1) (no_text (λ t. Unit {0}) 2))

no_attribute : ValueExcludes (Inner IsAttribute) IsAttributeFault
no_attribute (number n) at inside e v told is = absurd is
no_attribute (eight n) at inside e v told is = absurd is
no_attribute (four n) at inside e v told is = absurd is
no_attribute (text bytes) at inside e v (inl fault) is = no_pair bytes inside e is.attribute fault is.message
no_attribute (text bytes) at inside e v (inr bad) is =
    let same = OneValue-IsRecord attribute_rules attribute_made one_pair bytes is.attribute bad.1.0 is.message bad.1.1 in
    absurd (bad.1.2 v (subst (λ (a : List ℕ × List ℕ). TellsVersions a v) same is.tells))

one_family : OneValue family_rules
one_family = OneValue-& (Last (Text IsFamilyName) 1) (Repeated (Inner IsAttribute) 2) (OneValue-LastText IsFamilyName 1) (OneValue-RepeatedInner IsAttribute 2 OneValue-IsAttribute)

no_family : (bytes : List ℕ) (place : ℕ) (e : RecordError) (v : List ℕ × ℕ) → IsFamilySchemaFault bytes place e → IsFamilySchema bytes v → e ≡ NoMemory
no_family = RecordFault-excludes family_rules (λ before. Wrong 1 (Whole (Text IsFamilyName)) or Wrong 2 IsAttributeFault) family_made one_family
    (&-excludes (Last (Text IsFamilyName) 1) (Repeated (Inner IsAttribute) 2) _ _ (no_text IsFamilyName 1) (Repeated-excludes (Inner IsAttribute) IsAttributeFault 2 no_attribute))

no_schema : (bytes : List ℕ) (place : ℕ) (e : RecordError) (v : TableSchema) → IsTableSchemaFault bytes place e → IsTableSchema bytes v → e ≡ NoMemory
no_schema = RecordFault-excludes schema_rules (λ before. Wrong 1 (Within IsTableMessageFault) or Wrong 3 (Within IsFamilySchemaFault)) schema_made
    (OneValue-& (Last (Inner IsTableMessage) 1) (Repeated (Inner IsFamilySchema) 3) (OneValue-LastInner IsTableMessage 1 OneValue-IsTableMessage) (OneValue-RepeatedInner IsFamilySchema 3 OneValue-IsFamilySchema))
    (&-excludes (Last (Inner IsTableMessage) 1) (Repeated (Inner IsFamilySchema) 3) _ _ (no_last IsTableMessage IsTableMessageFault 1 no_table) (no_repeated IsFamilySchema IsFamilySchemaFault 3 no_family))

-- ---- files

no_file : (bytes : List ℕ) (place : ℕ) (e : RecordError) (v : File) → IsFileFault bytes place e → IsFile bytes v → e ≡ NoMemory
no_file = RecordFault-excludes file_rules (λ before. Wrong 1 (Whole (Inner IsEntryName)) or (Wrong 2 (Within IsReferenceMessageFault) or Wrong 3 (Whole AnyNumber))) file_made
    (OneValue-& (Last (Inner IsEntryName) 1) (Last (Inner IsReferenceMessage) 2 & Last AnyNumber 3) (OneValue-LastInner IsEntryName 1 OneValue-IsEntryName)
    (OneValue-& (Last (Inner IsReferenceMessage) 2) (Last AnyNumber 3) (OneValue-LastInner IsReferenceMessage 2 OneValue-IsReferenceMessage) (OneValue-AnyNumber 3)))
    (&-excludes (Last (Inner IsEntryName) 1) (Last (Inner IsReferenceMessage) 2 & Last AnyNumber 3) _ _ (Last-excludes (Inner IsEntryName) (Whole (Inner IsEntryName)) 1 (Whole-excludes (Inner IsEntryName)))
    (&-excludes (Last (Inner IsReferenceMessage) 2) (Last AnyNumber 3) _ _ (no_last IsReferenceMessage IsReferenceMessageFault 2 no_reference) (no_number 3)))

no_files : (bytes : List ℕ) (place : ℕ) (e : RecordError) (v : List ℕ × List File) → IsFamilyFilesFault bytes place e → IsFamilyFiles bytes v → e ≡ NoMemory
no_files = RecordFault-excludes files_rules (λ before. Wrong 1 (Whole (Text IsFamilyName)) or Wrong 2 (Within IsFileFault)) files_made
    (OneValue-& (Last (Text IsFamilyName) 1) (Repeated (Inner IsFile) 2) (OneValue-LastText IsFamilyName 1) (OneValue-RepeatedInner IsFile 2 OneValue-IsFile))
    (&-excludes (Last (Text IsFamilyName) 1) (Repeated (Inner IsFile) 2) _ _ (no_text IsFamilyName 1) (no_repeated IsFile IsFileFault 2 no_file))

-- ---- families in order

record IsSplit {V : Type 0} (spells : Part → V → Type 0) (xs ys : List Part) (vs : List V) : Type 0 where
  front : List V
  back : List V
  joined : vs ≡ front ++ back
  first : Spell spells xs front
  rest : Spell spells ys back

split_spell : {V : Type 0} (spells : Part → V → Type 0) (xs ys : List Part) (vs : List V) → Spell spells (xs ++ ys) vs → IsSplit spells xs ys vs
split_spell spells [] ys vs each = record { front = []; back = vs; joined = refl; first = tt; rest = each }
split_spell spells (x ∷ xs) ys [] each = absurd each
split_spell spells (x ∷ xs) ys (v ∷ vs) each =
    let more = split_spell spells xs ys vs each.1 in
    record { front = v ∷ more.front; back = more.back; joined = ap (λ (ws : List _). v ∷ ws) more.joined; first = (each.0, more.first); rest = more.rest }

front_rises : (front back : List (List ℕ × List File)) (v : List ℕ × List File) → AreRising (front ++ v ∷ back) → AreRising (front ++ v ∷ [])
front_rises front back v rise =
    rising-front (on (λ (w : List ℕ × List File). w.0) (slice_cmp nat_cmp)) (front ++ v ∷ []) back (subst AreRising (sym (append_assoc front (v ∷ []) back)) rise)

values_here : (id : ℕ) (p : ℕ × Part) (others : List (ℕ × Part)) → p.0 ≡ id → values_of id (p ∷ others) ≡ p.1 ∷ values_of id others
values_here id p others same = ap (λ (b : Bool). cond b (p.1 ∷ values_of id others) (values_of id others)) (eq-eqb p.0 id same)

no_order : (before others : List (ℕ × Part)) (p : ℕ × Part) (vs back : List (List ℕ × List File)) → IsOutOfOrder before p.1
    → Spell (Inner IsFamilyFiles) (values_of 3 before) vs → Spell (Inner IsFamilyFiles) (p.1 ∷ values_of 3 others) back → AreRising (vs ++ back) → ⊥
no_order before others p vs [] bad first rest rise = rest
no_order before others p vs (v ∷ back) bad first rest rise =
    no_rise before bad.families p.1 bad.family bad.before bad.here bad.falls vs v first rest.0 (front_rises vs back v rise)

no_rising : FieldExcludes (Rising (Inner IsFamilyFiles) 3) WrongFamily
no_rising before others p at inside e values (inl wrong) rising =
    no_repeated IsFamilyFiles IsFamilyFilesFault 3 no_files before others p at inside e values wrong (record { each = rising.each })
no_rising before others p at inside (BadRecord place) values (inr bad) rising =
    let all = subst (λ xs. Spell (Inner IsFamilyFiles) xs values) (values_of-append 3 before (p ∷ others)) rising.each in
    let split = split_spell (Inner IsFamilyFiles) (values_of 3 before) (values_of 3 (p ∷ others)) values all in
    absurd (no_order before others p split.front split.back bad.2 split.first (subst (λ xs. Spell (Inner IsFamilyFiles) xs split.back) (values_here 3 p others bad.0) split.rest)
    (subst AreRising split.joined rising.rise))
no_rising before others p at inside (MissingField id) values (inr bad) rising = absurd bad.1
no_rising before others p at inside NoMemory values (inr bad) rising = refl

-- ---- regions and manifests

one_part : OneValue part_rules
one_part = OneValue-& (Last AnyNumber 1) (Last (Inner IsRegionInfo) 2 & (Rising (Inner IsFamilyFiles) 3 & Last (Number IsSeq) 100)) (OneValue-AnyNumber 1)
    (OneValue-& (Last (Inner IsRegionInfo) 2) (Rising (Inner IsFamilyFiles) 3 & Last (Number IsSeq) 100) (OneValue-LastInner IsRegionInfo 2 OneValue-IsRegionInfo)
    (OneValue-& (Rising (Inner IsFamilyFiles) 3) (Last (Number IsSeq) 100) (OneValue-Rising (Inner IsFamilyFiles) 3 (OneValue-Inner IsFamilyFiles OneValue-IsFamilyFiles)) (OneValue-Last (Number IsSeq) 100 (OneValue-Number IsSeq))))

no_part : (bytes : List ℕ) (place : ℕ) (e : RecordError) (v : RegionManifest) → IsRegionManifestFault bytes place e → IsRegionManifest bytes v → e ≡ NoMemory
no_part bytes place e v (inl fault) is = RecordFault-excludes part_rules wrong_part part_made one_part
    (&-excludes (Last AnyNumber 1) (Last (Inner IsRegionInfo) 2 & (Rising (Inner IsFamilyFiles) 3 & Last (Number IsSeq) 100)) _ _ (no_number 1)
    (&-excludes (Last (Inner IsRegionInfo) 2) (Rising (Inner IsFamilyFiles) 3 & Last (Number IsSeq) 100) _ _ (no_last IsRegionInfo IsRegionInfoFault 2 no_region)
    (&-excludes (Rising (Inner IsFamilyFiles) 3) (Last (Number IsSeq) 100) _ _ no_rising (Last-excludes (Number IsSeq) (Whole (Number IsSeq)) 100 (Whole-excludes (Number IsSeq)))))) bytes place e v fault is
no_part bytes place e v (inr none) is = none

pub Excludes-IsRegionManifest : Excludes IsRegionManifest (λ bytes. IsRegionManifestFault bytes 0)
Excludes-IsRegionManifest bytes v e is fault = no_part bytes 0 e v fault is

pub Excludes-IsManifest : Excludes IsManifest IsManifestFault
Excludes-IsManifest bytes v e is fault = RecordFault-excludes manifest_rules (λ before. Wrong 1 (Within IsTableSchemaFault) or Wrong 2 (Within IsRegionManifestFault)) manifest_made
    (OneValue-& (Last (Inner IsTableSchema) 1) (Repeated (Inner IsRegionManifest) 2) (OneValue-LastInner IsTableSchema 1 OneValue-IsTableSchema) (OneValue-RepeatedInner IsRegionManifest 2 OneValue-IsRegionManifest))
    (&-excludes (Last (Inner IsTableSchema) 1) (Repeated (Inner IsRegionManifest) 2) _ _ (no_last IsTableSchema IsTableSchemaFault 1 no_schema) (no_repeated IsRegionManifest IsRegionManifestFault 2 no_part)) bytes 0 e v fault is
