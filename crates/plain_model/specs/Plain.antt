-- Tables as plain lists of cells. Own: the state has no file, so that it can say what files are to keep.
use Rattle.std.specs.Prelude.{ℕ, List, Option}
use Rattle.hb_cell.specs.declared.cell.Cell.{Cell}
use Rattle.plain_model.specs.declared.parts.Live.{Live}
use Rattle.plain_model.specs.declared.parts.PlainSnapshot.{PlainSnapshot}
use Rattle.plain_model.specs.declared.parts.PlainTable.{PlainTable}
use Rattle.plain_model.specs.declared.parts.RegionCopy.{RegionCopy}
use Rattle.plain_model.specs.declared.region_key.RegionKey.{RegionKey}
use Rattle.plain_model.specs.Names.{Names}

-- the state; what stands at the key of no region is not spoken of
pub record Plain : Type 0 where
  pub tables : Names PlainTable
  -- the cells of a region's files
  pub stable : RegionKey → List Cell
  -- its unflushed cells, in order of arrival
  pub mem : RegionKey → List Cell
  -- how many at the front of these are frozen
  pub frozen : RegionKey → ℕ
  -- its last sequence number
  pub seq : RegionKey → ℕ
  -- the number that a stop leaves
  pub kept : RegionKey → ℕ
  pub snapshots : Names PlainSnapshot
  -- the activities at work, in the order of their starts
  pub live : List Live
  -- what each has captured of a region
  pub captures : ℕ → RegionKey → Option RegionCopy
  -- how long each found a region's list of cells when its major compaction began
  pub noted : ℕ → RegionKey → Option ℕ
