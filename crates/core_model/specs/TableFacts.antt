-- What holds of the tables.
use Rattle.std.specs.Prelude.{◌≡◌, Bool, List, ℕ, Some}
use Rattle.std.specs.FinMap.{get}
use Rattle.hb_records.specs.declared.region_info.RegionInfo.{RegionInfo}
use Rattle.plain_model.specs.Names.{Names}
use Rattle.plain_model.specs.declared.parts.PlainTable.{PlainTable}
use Rattle.cell_sight.specs.Member.{Member}

-- the regions of a table are its own
pub record HasOwnRegions (tables : Names PlainTable) : Type 0 where
  pub at : (t : List ℕ) (table : PlainTable) (i : RegionInfo) (split : Bool) → get tables t ≡ Some table → Member (i, split) table.regions → i.table ≡ t
