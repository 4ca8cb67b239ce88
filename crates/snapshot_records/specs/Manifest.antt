-- What a snapshot holds (HBase SnapshotDataManifest and SnapshotRegionManifest):
--   1 the schema of its table, required
--   2 a region, repeated:
--       1 the version of the form
--       2 the region, required
--       3 the files of a family, repeated; the families' names ascend strictly
--       100 the greatest sequence number of its cells, required
use Rattle.std.specs.Prelude.{◌≤◌, ℕ, List, Option, Result, Ok}
use Rattle.wire_fields.specs.Fields.{Part}
use Rattle.field_rules.specs.declared.unmade.Unmade.{Unmade}
use Rattle.field_rules.specs.Values.{Number, AnyNumber, Inner}
use Rattle.field_rules.specs.Rules.{Last, Repeated, Rising, ◌&◌}
use Rattle.field_rules.specs.Record.{◌>>=◌, need, IsRecord}
use Rattle.hb_records.specs.declared.region_info.RegionInfo.{RegionInfo}
use Rattle.hb_records.specs.declared.table_schema.TableSchema.{TableSchema}
use Rattle.snapshot_records.specs.declared.manifest.RegionManifest.{RegionManifest}
use Rattle.snapshot_records.specs.declared.manifest.Manifest.{Manifest}
use Rattle.snapshot_records.specs.RegionInfo.{IsRegionInfo}
use Rattle.snapshot_records.specs.Schema.{IsTableSchema}
use Rattle.snapshot_records.specs.Files.{File, IsFamilyFiles, entries}

-- a sequence number
abbrev pub IsSeq : ℕ → Type 0
IsSeq n = n ≤ 9_223_372_036_854_775_807

abbrev pub PartValues : Type 0
PartValues = Option ℕ × (Option RegionInfo × (List (List ℕ × List File) × Option ℕ))

abbrev pub part_rules : List (ℕ × Part) → PartValues → Type 0
part_rules = Last AnyNumber 1 & (Last (Inner IsRegionInfo) 2 & (Rising (Inner IsFamilyFiles) 3 & Last (Number IsSeq) 100))

abbrev pub part_made : PartValues → Result RegionManifest Unmade
part_made (version, (info, (families, seq))) = do
  info ← need 2 info
  seq ← need 100 seq
  Ok (record { info = info; seq = seq; files = entries families })

abbrev pub IsRegionManifest : List ℕ → RegionManifest → Type 0
IsRegionManifest = IsRecord part_rules part_made

abbrev pub manifest_rules : List (ℕ × Part) → Option TableSchema × List RegionManifest → Type 0
manifest_rules = Last (Inner IsTableSchema) 1 & Repeated (Inner IsRegionManifest) 2

abbrev pub manifest_made : Option TableSchema × List RegionManifest → Result Manifest Unmade
manifest_made values = do
  schema ← need 1 values.0
  Ok (record { schema = schema; regions = values.1 })

abbrev pub IsManifest : List ℕ → Manifest → Type 0
IsManifest = IsRecord manifest_rules manifest_made
