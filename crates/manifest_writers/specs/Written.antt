-- What is written of a manifest: fields in the order of their numbers, each once but those that are repeated.
use Rattle.std.specs.Prelude.{◌++◌, ℕ, List, [], ◌∷◌, map, codes, Option, Some, None, if◌then◌else◌, suc}
use Rattle.std.specs.Fmt.{decimal}
use Rattle.std.specs.Str.{bytes_eq}
use Rattle.wire_fields.specs.Fields.{Part, number, text}
use Rattle.wire_fields.specs.Message.{message_bytes}
use Rattle.hb_records.specs.declared.table_schema.TableSchema.{TableSchema}
use Rattle.snapshot_records.specs.declared.reference.Reference.{Reference}
use Rattle.snapshot_records.specs.declared.manifest.RegionManifest.{RegionManifest}
use Rattle.snapshot_records.specs.declared.manifest.Manifest.{Manifest}
use Rattle.snapshot_records.specs.Files.{File}
use Rattle.snapshot_writers.specs.Written.{reference_message, table_bytes, region_bytes}

-- a repeated field, once for each value
abbrev pub repeated : {V : Type 0} → ℕ → (V → List ℕ) → List V → List (ℕ × Part)
repeated id bytes values = map (λ v. (id, text (bytes v))) values

-- ---- schemas

abbrev pub attribute_parts : ℕ → List (ℕ × Part)
attribute_parts versions = (1, text (codes "VERSIONS")) ∷ (2, text (decimal versions)) ∷ []

abbrev pub attribute_bytes : ℕ → List ℕ
attribute_bytes versions = message_bytes (attribute_parts versions)

abbrev pub family_schema_parts : List ℕ × ℕ → List (ℕ × Part)
family_schema_parts family = (1, text family.0) ∷ (2, text (attribute_bytes family.1)) ∷ []

abbrev pub family_schema_bytes : List ℕ × ℕ → List ℕ
family_schema_bytes family = message_bytes (family_schema_parts family)

abbrev pub schema_parts : TableSchema → List (ℕ × Part)
schema_parts schema = (1, text (table_bytes schema.table)) ∷ repeated 3 family_schema_bytes schema.families

abbrev pub schema_bytes : TableSchema → List ℕ
schema_bytes schema = message_bytes (schema_parts schema)

-- ---- files

-- a file with its family
abbrev pub Entry : Type 0
Entry = List ℕ × List ℕ × Option Reference × ℕ

-- the files of a family
abbrev pub FamilyFiles : Type 0
FamilyFiles = List ℕ × List File

abbrev pub half_part : Option Reference → List (ℕ × Part)
half_part None = []
half_part (Some reference) = (2, text (reference_message reference)) ∷ []

abbrev pub file_parts : File → List (ℕ × Part)
file_parts file = (1, text file.0) ∷ (half_part file.1 ++ (3, number file.2) ∷ [])

abbrev pub file_bytes : File → List ℕ
file_bytes file = message_bytes (file_parts file)

abbrev pub family_files_parts : FamilyFiles → List (ℕ × Part)
family_files_parts family = (1, text family.0) ∷ repeated 2 file_bytes family.1

abbrev pub family_files_bytes : FamilyFiles → List ℕ
family_files_bytes family = message_bytes (family_files_parts family)

-- a file without its family
abbrev pub file_of : Entry → File
file_of entry = (entry.1, entry.2, entry.3)

-- a file in front of those of some families: with the first family's, where it is of that one
abbrev pub in_front : Entry → List FamilyFiles → List FamilyFiles
in_front entry [] = (entry.0, file_of entry ∷ []) ∷ []
in_front entry (family ∷ families) =
    if bytes_eq family.0 entry.0 then (family.0, file_of entry ∷ family.1) ∷ families
    else (entry.0, file_of entry ∷ []) ∷ family ∷ families

-- files by their families: neighbours of one family stand together
abbrev pub by_family : List Entry → List FamilyFiles
by_family [] = []
by_family (entry ∷ entries) = in_front entry (by_family entries)

-- how many of the files at the front are of a family
abbrev pub run_length : List ℕ → List Entry → ℕ
run_length family [] = 0
run_length family (entry ∷ entries) = if bytes_eq entry.0 family then suc (run_length family entries) else 0

-- ---- manifests

-- the version of the form is 1
abbrev pub region_manifest_parts : RegionManifest → List (ℕ × Part)
region_manifest_parts region =
    (1, number 1) ∷ (2, text (region_bytes region.info)) ∷ (repeated 3 family_files_bytes (by_family region.files) ++ (100, number region.seq) ∷ [])

abbrev pub region_manifest_bytes : RegionManifest → List ℕ
region_manifest_bytes region = message_bytes (region_manifest_parts region)

abbrev pub manifest_parts : Manifest → List (ℕ × Part)
manifest_parts manifest = (1, text (schema_bytes manifest.schema)) ∷ repeated 2 region_manifest_bytes manifest.regions

abbrev pub manifest_bytes : Manifest → List ℕ
manifest_bytes manifest = message_bytes (manifest_parts manifest)
