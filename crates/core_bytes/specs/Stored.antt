-- The files of the newest lists and sets, and the tables that these have.
use Rattle.std.specs.Prelude.{◌≡◌, ℕ, List, Option, Some, None}
use Rattle.std.specs.FinMap.{get}
use Rattle.ns_tree.specs.declared.file.FileState.{FileState}
use Rattle.region_set.specs.declared.region_set.RegionSet.{RegionSet}
use Rattle.plain_model.specs.declared.parts.PlainTable.{PlainTable}
use Rattle.plain_model.specs.declared.region_key.RegionKey.{RegionKey}
use Rattle.plain_model.specs.Names.{Names}
use Rattle.core_model.specs.declared.plan.Plan.{Plan}
use Rattle.core_model.specs.declared.region_files.RegionFiles.{RegionFiles}
use Rattle.core_model.specs.Actors.{Counts}
use Rattle.core_model.specs.Entries.{no_list, region_list}
use Rattle.core_model.specs.Opened.{table_of}
use Rattle.core_bytes.specs.FileOf.{IsListFileOf, IsSetFileOf}

-- the file of a list's number is the list's; a region without a list has none
pub data IsStored (files : ℕ → Option FileState) (l : RegionFiles) : Type 0 where
  unwritten : l ≡ no_list → IsStored files l
  written : (f : FileState) → files l.number ≡ Some f → IsListFileOf f.bytes (region_list l) → IsStored files l

-- so it is of each region that counts
pub record HasListFiles (files : RegionKey → ℕ → Option FileState) (lists : RegionKey → RegionFiles) (tables : Names PlainTable) (plans : ℕ → Plan) : Type 0 where
  pub at : (r : RegionKey) → Counts tables plans r → IsStored (files r) (lists r)

-- the file of a set's number is the set's
pub record HasSetFiles (files : List ℕ → ℕ → Option FileState) (sets : Names RegionSet) : Type 0 where
  pub at : (table : List ℕ) (x : RegionSet) → get sets table ≡ Some x → (f : FileState) × (files table x.number ≡ Some f) × IsSetFileOf table f.bytes x

-- the plain tables are those of the newest sets
abbrev pub table_in_set : Option RegionSet → Option PlainTable
table_in_set None = None
table_in_set (Some x) = table_of x

pub record TablesAgree (sets : Names RegionSet) (tables : Names PlainTable) : Type 0 where
  pub at : (table : List ℕ) → get tables table ≡ table_in_set (get sets table)
