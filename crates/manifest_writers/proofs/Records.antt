-- What is written is the record of its value.
use Rattle.std.proofs.Common.{◌≡◌, ℕ, ◌^◌, ◌<◌, ◌≤◌, Bool, true, false, List, [], ◌∷◌, ◌++◌, length, map, Option, Some, None, refl, sym, ap, subst, ◌∙◌, arith}
use Rattle.std.specs.Prelude.{codes, Result, Ok, ◌==◌}
use Rattle.std.specs.Fmt.{decimal}
use Rattle.std.specs.List.{AllByRecursion, flat_map}
use Rattle.std.proofs.lemmas.List.{append-nil}
use Rattle.std.proofs.lemmas.List.Concat.{flat_map-append}
use Rattle.wire_fields.specs.Fields.{Part, number, text, field_bytes}
use Rattle.wire_fields.specs.Message.{message_bytes, AreParts, IsPart}
use Rattle.field_rules.specs.declared.unmade.Unmade.{Unmade}
use Rattle.field_rules.specs.Values.{Number, AnyNumber, Text, Inner}
use Rattle.field_rules.specs.Rules.{values_of, Spell, Rising}
use Rattle.field_reader.proofs.Apart.{values_of-append}
use Rattle.hb_names.specs.FamilyName.{IsFamilyName}
use Rattle.hb_records.specs.declared.table_schema.TableSchema.{TableSchema}
use Rattle.snapshot_records.specs.declared.reference.Reference.{Reference}
use Rattle.snapshot_records.specs.declared.manifest.RegionManifest.{RegionManifest}
use Rattle.snapshot_records.specs.declared.manifest.Manifest.{Manifest}
use Rattle.snapshot_records.specs.declared.manifest.TheConstants.{MAX_VERSIONS}
use Rattle.snapshot_records.specs.Reference.{IsReferenceMessage}
use Rattle.snapshot_records.specs.TableMessage.{IsTableMessage}
use Rattle.snapshot_records.specs.RegionInfo.{IsRegionInfo}
use Rattle.snapshot_records.specs.Schema.{IsAttribute, IsFamilySchema, IsTableSchema}
use Rattle.snapshot_records.specs.Files.{File, IsEntryName, IsFile, IsFamilyFiles, entries}
use Rattle.snapshot_records.specs.Manifest.{IsSeq, IsRegionManifest, IsManifest}
use Rattle.snapshot_writers.specs.Written.{reference_message, table_bytes, region_bytes}
use Rattle.snapshot_writers.proofs.WrittenLemmas.{reference_message_written, table_written, region_written}
use Rattle.manifest_writers.specs.Written.{repeated, attribute_parts, attribute_bytes, family_schema_parts, family_schema_bytes, schema_parts, schema_bytes, FamilyFiles, file_parts, file_bytes, family_files_parts, family_files_bytes, by_family, region_manifest_parts, region_manifest_bytes, manifest_parts, manifest_bytes}
use Rattle.manifest_writers.specs.Writable.{IsWritableFamily, IsWritableSchema, HasSplitRow, IsWritableRegionManifest, IsWritableManifest, RegionManifestsAreWritten, ManifestsAreWritten}
use Rattle.manifest_writers.proofs.Repeats.{IsField, parts_fit, All-append, All-first, fields_repeated, values_repeated, values_other, Spell-repeated, Last-one, Last-none, Repeated-all}
use Rattle.manifest_writers.proofs.Families.{entries-by_family, by_family-rising, IsWritableInFamily, IsWritableFamilyFiles, by_family-all}

-- ---- schemas

attribute_written : (versions : ℕ) → 1 ≤ versions → versions ≤ MAX_VERSIONS → length (attribute_bytes versions) < 2 ^ 64 → IsAttribute (attribute_bytes versions) (Some versions)
attribute_written versions least most short =
    let fit = parts_fit (attribute_parts versions) (((omega arith, omega arith), tt), (((omega arith, omega arith), tt), tt)) short in
    record {
      attribute = (codes "VERSIONS", decimal versions);
      message = record {
        parts = attribute_parts versions;
        values = (Some (codes "VERSIONS"), Some (decimal versions));
        message = (fit, refl);
        spelled = (record { all = codes "VERSIONS" ∷ []; each = ((tt, refl), tt); counts = refl }, record { all = decimal versions ∷ []; each = ((tt, refl), tt); counts = refl });
        whole = refl;
      };
      tells = (refl, refl, least, most);
    }

family_schema_written : (family : List ℕ × ℕ) → IsWritableFamily family → length (family_schema_bytes family) < 2 ^ 64 → IsFamilySchema (family_schema_bytes family) family
family_schema_written family is short =
    let fit = parts_fit (family_schema_parts family) (((omega arith, omega arith), tt), (((omega arith, omega arith), tt), tt)) short in
    record {
      parts = family_schema_parts family;
      values = (Some family.0, Some family.1 ∷ []);
      message = (fit, refl);
      spelled = (record { all = family.0 ∷ []; each = ((is.name, refl), tt); counts = refl }, record { each = (attribute_written family.1 is.least is.most fit.1.0.1, tt) });
      whole = refl;
    }

schema_written : (schema : TableSchema) → IsWritableSchema schema → length (schema_bytes schema) < 2 ^ 64 → IsTableSchema (schema_bytes schema) schema
schema_written schema is short =
    let families = repeated 3 family_schema_bytes schema.families in
    let table = text (table_bytes schema.table) in
    let fit = parts_fit (schema_parts schema) (((omega arith, omega arith), tt), fields_repeated family_schema_bytes 3 schema.families (omega arith, omega arith)) short in
    record {
      parts = schema_parts schema;
      values = (Some schema.table, schema.families);
      message = (fit, refl);
      spelled = (
        Last-one (Inner IsTableMessage) 1 (schema_parts schema) table schema.table (ap (λ (rest : List Part). table ∷ rest) (values_other family_schema_bytes 3 1 schema.families refl)) (table_written schema.table is.table),
        Repeated-all (Inner IsFamilySchema) 3 (schema_parts schema) _ schema.families (values_repeated family_schema_bytes 3 schema.families refl)
            (Spell-repeated family_schema_bytes IsFamilySchema IsWritableFamily family_schema_written 3 schema.families is.families fit.1),
      );
      whole = refl;
    }

-- ---- files

file_case : (name : List ℕ) (half : Option Reference) (size : ℕ) → IsWritableInFamily (name, half, size) → length (file_bytes (name, half, size)) < 2 ^ 64
    → IsFile (file_bytes (name, half, size)) (name, half, size)
file_case name None size is short =
    let fit = parts_fit (file_parts (name, None, size)) (((omega arith, omega arith), tt), (((omega arith, omega arith), is.size), tt)) short in
    record {
      parts = file_parts (name, None, size);
      values = (Some (name, false), (None, Some size));
      message = (fit, refl);
      spelled = (
        record { all = (name, false) ∷ []; each = (is.name, tt); counts = refl },
        (record { all = []; each = tt; counts = refl }, record { all = size ∷ []; each = ((tt, refl), tt); counts = refl }),
      );
      whole = refl;
    }
file_case name (Some reference) size is short =
    let fit = parts_fit (file_parts (name, Some reference, size)) (((omega arith, omega arith), tt), (((omega arith, omega arith), tt), (((omega arith, omega arith), is.size), tt))) short in
    record {
      parts = file_parts (name, Some reference, size);
      values = (Some (name, true), (Some reference, Some size));
      message = (fit, refl);
      spelled = (
        record { all = (name, true) ∷ []; each = (is.name, tt); counts = refl },
        (
          record { all = reference ∷ []; each = (reference_message_written reference is.half, tt); counts = refl },
          record { all = size ∷ []; each = ((tt, refl), tt); counts = refl },
        ),
      );
      whole = refl;
    }

file_written : (file : File) → IsWritableInFamily file → length (file_bytes file) < 2 ^ 64 → IsFile (file_bytes file) file
file_written file = file_case file.0 file.1 file.2

family_files_written : (family : FamilyFiles) → IsWritableFamilyFiles family → length (family_files_bytes family) < 2 ^ 64 → IsFamilyFiles (family_files_bytes family) family
family_files_written family is short =
    let name = text family.0 in
    let fit = parts_fit (family_files_parts family) (((omega arith, omega arith), tt), fields_repeated file_bytes 2 family.1 (omega arith, omega arith)) short in
    record {
      parts = family_files_parts family;
      values = (Some family.0, family.1);
      message = (fit, refl);
      spelled = (
        Last-one (Text IsFamilyName) 1 (family_files_parts family) name family.0 (ap (λ (rest : List Part). name ∷ rest) (values_other file_bytes 2 1 family.1 refl)) (is.name, refl),
        Repeated-all (Inner IsFile) 2 (family_files_parts family) _ family.1 (values_repeated file_bytes 2 family.1 refl)
            (Spell-repeated file_bytes IsFile IsWritableInFamily file_written 2 family.1 is.files fit.1),
      );
      whole = refl;
    }

-- ---- regions

-- the fields behind the families
abbrev behind : ℕ → List (ℕ × Part)
behind seq = (100, number seq) ∷ []

-- a number that is none of the families'
values_behind : (id : ℕ) (families : List FamilyFiles) (seq : ℕ) → (3 == id) ≡ false
    → values_of id (repeated 3 family_files_bytes families ++ behind seq) ≡ values_of id (behind seq)
values_behind id families seq apart =
    values_of-append id (repeated 3 family_files_bytes families) (behind seq) ∙ ap (λ (xs : List Part). xs ++ values_of id (behind seq)) (values_other family_files_bytes 3 id families apart)

values_families : (families : List FamilyFiles) (seq : ℕ) → values_of 3 (repeated 3 family_files_bytes families ++ behind seq) ≡ map (λ f. text (family_files_bytes f)) families
values_families families seq =
    values_of-append 3 (repeated 3 family_files_bytes families) (behind seq) ∙ append-nil _ ∙ values_repeated family_files_bytes 3 families refl

pub region_manifest_written : RegionManifestsAreWritten
region_manifest_written region is short =
    let families = by_family region.files in
    let parts = region_manifest_parts region in
    let info = text (region_bytes region.info) in
    let seq : region.seq < 2 ^ 64 = let most = is.seq in omega arith in
    let fit = parts_fit parts (
      ((omega arith, omega arith), omega arith),
      (
        ((omega arith, omega arith), tt),
        All-append IsField (repeated 3 family_files_bytes families) (behind region.seq) (fields_repeated family_files_bytes 3 families (omega arith, omega arith)) (((omega arith, omega arith), seq), tt),
      ),
    ) short in
    let each = Spell-repeated family_files_bytes IsFamilyFiles IsWritableFamilyFiles family_files_written 3 families (by_family-all region.files is.files)
    (All-first IsPart (repeated 3 family_files_bytes families) (behind region.seq) fit.1.1) in
    record {
      parts = parts;
      values = (Some 1, (Some region.info, (families, Some region.seq)));
      message = (fit, refl);
      spelled = (
        Last-one AnyNumber 1 parts (number 1) 1 (ap (λ (rest : List Part). number 1 ∷ rest) (values_behind 1 families region.seq refl)) (tt, refl),
        (
          Last-one (Inner IsRegionInfo) 2 parts info region.info (ap (λ (rest : List Part). info ∷ rest) (values_behind 2 families region.seq refl)) (region_written region.info is.info),
          (
            record {
              each = subst (λ xs. Spell (Inner IsFamilyFiles) xs families) (sym (values_families families region.seq)) each;
              rise = by_family-rising region.files is.files;
            },
            Last-one (Number IsSeq) 100 parts (number region.seq) region.seq (values_behind 100 families region.seq refl) (is.seq, refl),
          ),
        ),
      );
      whole = ap (λ (files : List (List ℕ × List ℕ × Option Reference × ℕ)). Ok (record { info = region.info; seq = region.seq; files = files })) (entries-by_family region.files);
    }

-- ---- manifests

pub manifest_written : ManifestsAreWritten
manifest_written manifest is short =
    let schema = text (schema_bytes manifest.schema) in
    let fit = parts_fit (manifest_parts manifest) (((omega arith, omega arith), tt), fields_repeated region_manifest_bytes 2 manifest.regions (omega arith, omega arith)) short in
    record {
      parts = manifest_parts manifest;
      values = (Some manifest.schema, manifest.regions);
      message = (fit, refl);
      spelled = (
        Last-one (Inner IsTableSchema) 1 (manifest_parts manifest) schema manifest.schema (ap (λ (rest : List Part). schema ∷ rest) (values_other region_manifest_bytes 2 1 manifest.regions refl))
            (schema_written manifest.schema is.schema fit.0.1),
        Repeated-all (Inner IsRegionManifest) 2 (manifest_parts manifest) _ manifest.regions (values_repeated region_manifest_bytes 2 manifest.regions refl)
            (Spell-repeated region_manifest_bytes IsRegionManifest IsWritableRegionManifest region_manifest_written 2 manifest.regions is.regions fit.1),
      );
      whole = refl;
    }
