-- Where bytes are no manifest: of its messages the first field, in the order of the bytes, that is not in its grammar,
-- or what is missing at the end of one.
use Rattle.std.specs.Prelude.{◌≡◌, ◌⊎◌, ℕ, List, ◌∷◌, [], ◌++◌, Option}
use Rattle.std.specs.Ordering.{nat_cmp, on}
use Rattle.std.specs.List.Sorted.{IsStrictlySortedBy}
use Rattle.std.specs.Cmp.Lexicographic.{slice_cmp}
use Rattle.wire_fields.specs.Fields.{Part}
use Rattle.field_rules.specs.Values.{Text, Inner, AnyNumber, AnyText, Number}
use Rattle.field_rules.specs.Rules.{values_of, Spell}
use Rattle.field_rules.specs.Record.{IsRecord}
use Rattle.field_reader.specs.declared.fault.RecordError.{RecordError}
use Rattle.field_reader.specs.declared.fault.RecordError.TheVariants.{NoMemory}
use Rattle.field_reader.specs.Faults.{IsAt, Whole, Within, Wrong, ◌or◌, RecordFault}
use Rattle.hb_names.specs.FamilyName.{IsFamilyName}
use Rattle.snapshot_records.specs.Schema.{attribute_rules, attribute_made, TellsVersions, family_rules, family_made, schema_rules, schema_made}
use Rattle.snapshot_records.specs.Files.{File, IsEntryName, file_rules, file_made, files_rules, files_made, IsFamilyFiles}
use Rattle.snapshot_records.specs.Manifest.{IsSeq, part_rules, part_made, manifest_rules, manifest_made}
use Rattle.snapshot_messages.specs.Faults.{IsReferenceMessageFault, IsTableMessageFault, IsRegionInfoFault}

-- an attribute's name and value
abbrev pub IsPair : List ℕ → List ℕ × List ℕ → Type 0
IsPair = IsRecord attribute_rules attribute_made

abbrev pub IsPairFault : List ℕ → ℕ → RecordError → Type 0
IsPairFault = RecordFault attribute_rules (λ parts. Wrong 1 (Whole AnyText) or Wrong 2 (Whole AnyText)) attribute_made

-- it is VERSIONS, and its value is no count of them
abbrev pub TellsNone : List ℕ × List ℕ → Type 0
TellsNone attribute = (versions : Option ℕ) → TellsVersions attribute versions → ⊥

-- an attribute is no message, or its value is no count of versions, which is told of its field
abbrev pub IsAttributeFault : Part → ℕ → ℕ → RecordError → Type 0
IsAttributeFault part at inside e =
    Within IsPairFault part at inside e ⊎ (IsAt at e × ((attribute : List ℕ × List ℕ) × Inner IsPair part attribute × TellsNone attribute))

abbrev pub IsFamilySchemaFault : List ℕ → ℕ → RecordError → Type 0
IsFamilySchemaFault = RecordFault family_rules (λ parts. Wrong 1 (Whole (Text IsFamilyName)) or Wrong 2 IsAttributeFault) family_made

abbrev pub IsTableSchemaFault : List ℕ → ℕ → RecordError → Type 0
IsTableSchemaFault = RecordFault schema_rules (λ parts. Wrong 1 (Within IsTableMessageFault) or Wrong 3 (Within IsFamilySchemaFault)) schema_made

abbrev pub IsFileFault : List ℕ → ℕ → RecordError → Type 0
IsFileFault = RecordFault file_rules
    (λ parts. Wrong 1 (Whole (Inner IsEntryName)) or (Wrong 2 (Within IsReferenceMessageFault) or Wrong 3 (Whole AnyNumber))) file_made

abbrev pub IsFamilyFilesFault : List ℕ → ℕ → RecordError → Type 0
IsFamilyFilesFault = RecordFault files_rules (λ parts. Wrong 1 (Whole (Text IsFamilyName)) or Wrong 2 (Within IsFileFault)) files_made

-- the families' names ascend strictly
abbrev pub AreRising : List (List ℕ × List File) → Type 0
AreRising = IsStrictlySortedBy (on (λ (v : List ℕ × List File). v.0) (slice_cmp nat_cmp))

-- the families before, and the one that a value is, which does not stand above them
pub record IsOutOfOrder (parts : List (ℕ × Part)) (part : Part) : Type 0 where
  pub families : List (List ℕ × List File)
  pub family : List ℕ × List File
  pub before : Spell (Inner IsFamilyFiles) (values_of 3 parts) families
  pub here : Inner IsFamilyFiles part family
  pub falls : AreRising (families ++ family ∷ []) → ⊥

-- the files of a family behind some fields have a fault, or are read and the family does not stand above those before,
-- which is told of its field
abbrev pub WrongFamily : List (ℕ × Part) → ℕ × Part → ℕ → ℕ → RecordError → Type 0
WrongFamily parts p at inside e = Wrong 3 (Within IsFamilyFilesFault) p at inside e ⊎ ((p.0 ≡ 3) × IsAt at e × IsOutOfOrder parts p.1)

abbrev pub wrong_part : List (ℕ × Part) → ℕ × Part → ℕ → ℕ → RecordError → Type 0
wrong_part parts = Wrong 1 (Whole AnyNumber) or (Wrong 2 (Within IsRegionInfoFault) or (WrongFamily parts or Wrong 100 (Whole (Number IsSeq))))

-- a region's fields have a fault, or memory for its files is wanting
abbrev pub IsRegionManifestFault : List ℕ → ℕ → RecordError → Type 0
IsRegionManifestFault bytes place e = RecordFault part_rules wrong_part part_made bytes place e ⊎ (e ≡ NoMemory)

abbrev pub IsManifestFault : List ℕ → RecordError → Type 0
IsManifestFault bytes = RecordFault manifest_rules
    (λ parts. Wrong 1 (Within IsTableSchemaFault) or Wrong 2 (Within IsRegionManifestFault)) manifest_made bytes 0
