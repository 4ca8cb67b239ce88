-- The parts of a region's manifest.
use Rattle.std.specs.Prelude.{ℕ, List, Option, Result, Ok}
use Rattle.field_rules.specs.declared.unmade.Unmade.{Unmade}
use Rattle.field_rules.specs.Record.{◌>>=◌, need}
use Rattle.hb_records.specs.declared.region_info.RegionInfo.{RegionInfo}
use Rattle.snapshot_records.specs.declared.reference.Reference.{Reference}
use Rattle.snapshot_records.specs.declared.manifest.RegionManifest.{RegionManifest}
use Rattle.snapshot_records.specs.Files.{File}

abbrev pub Entry : Type 0
Entry = List ℕ × List ℕ × Option Reference × ℕ

-- a file with its family
abbrev pub with_family : List ℕ → File → Entry
with_family family file = (family, file.0, file.1, file.2)

-- a region of its files
abbrev pub region_made : Option RegionInfo → List Entry → Option ℕ → Result RegionManifest Unmade
region_made info files seq = do
  info ← need 2 info
  seq ← need 100 seq
  Ok (record { info = info; seq = seq; files = files })
