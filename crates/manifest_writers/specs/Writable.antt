-- The manifests that have a record, which are those that can be written.
use Rattle.std.specs.Prelude.{◌≡◌, ◌≤◌, ◌<◌, ◌^◌, ℕ, List, length, Option, Some, None, IfSome, is_some}
use Rattle.std.specs.List.{AllByRecursion}
use Rattle.hb_grammar.specs.AtLeast.{IsAtLeast}
use Rattle.hb_grammar.specs.Rows.{RowsFrom}
use Rattle.hb_names.specs.TableName.{IsTableName}
use Rattle.hb_names.specs.FamilyName.{IsFamilyName}
use Rattle.hb_records.specs.declared.table_schema.TableSchema.{TableSchema}
use Rattle.snapshot_records.specs.declared.reference.Reference.{Reference}
use Rattle.snapshot_records.specs.declared.manifest.RegionManifest.{RegionManifest}
use Rattle.snapshot_records.specs.declared.manifest.Manifest.{Manifest}
use Rattle.snapshot_records.specs.declared.manifest.TheConstants.{MAX_VERSIONS}
use Rattle.snapshot_records.specs.Reference.{IsSplitRow}
use Rattle.snapshot_records.specs.Files.{IsEntryName}
use Rattle.snapshot_records.specs.Manifest.{IsSeq, IsRegionManifest, IsManifest}
use Rattle.snapshot_writers.specs.Written.{IsWritableRegion}
use Rattle.manifest_writers.specs.Written.{Entry, region_manifest_bytes, manifest_bytes}

-- a family of a schema: 1 to 2 ^ 31 - 1 versions
pub record IsWritableFamily (family : List ℕ × ℕ) : Type 0 where
  pub name : IsFamilyName family.0
  pub least : 1 ≤ family.1
  pub most : family.1 ≤ MAX_VERSIONS

pub record IsWritableSchema (schema : TableSchema) : Type 0 where
  pub table : IsTableName schema.table
  pub families : AllByRecursion IsWritableFamily schema.families

-- the row at which a half's file was split
abbrev pub HasSplitRow : Option Reference → Type 0
HasSplitRow None = Unit {0}
HasSplitRow (Some reference) = IsSplitRow reference.row

-- a file by the name of a file or link, and a half by that of a half
pub record IsWritableFile (entry : Entry) : Type 0 where
  pub family : IsFamilyName entry.0
  pub name : IsEntryName entry.1 (entry.1, is_some entry.2)
  pub half : HasSplitRow entry.2
  pub size : entry.3 < 2 ^ 64

-- a file that may stand behind another: its family's name is not below that one's
abbrev pub IsFileBehind : Option Entry → Entry → Type 0
IsFileBehind None entry = IsWritableFile entry
IsFileBehind (Some last) entry = IsWritableFile entry × IsAtLeast last.0 entry.0

-- files whose families' names ascend
abbrev pub AreWritableFiles : List Entry → Type 0
AreWritableFiles = RowsFrom IsFileBehind None

pub record IsWritableRegionManifest (region : RegionManifest) : Type 0 where
  pub info : IsWritableRegion region.info
  pub seq : IsSeq region.seq
  pub files : AreWritableFiles region.files

pub record IsWritableManifest (manifest : Manifest) : Type 0 where
  pub schema : IsWritableSchema manifest.schema
  pub regions : AllByRecursion IsWritableRegionManifest manifest.regions

-- what is written is the record of its value; the number of bytes of a field has 64 bits
abbrev pub RegionManifestsAreWritten : Type 0
RegionManifestsAreWritten = (region : RegionManifest) → IsWritableRegionManifest region → length (region_manifest_bytes region) < 2 ^ 64
    → IsRegionManifest (region_manifest_bytes region) region

abbrev pub ManifestsAreWritten : Type 0
ManifestsAreWritten = (manifest : Manifest) → IsWritableManifest manifest → length (manifest_bytes manifest) < 2 ^ 64
    → IsManifest (manifest_bytes manifest) manifest
