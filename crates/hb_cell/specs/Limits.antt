-- What a cell's parts may be.
use Rattle.std.specs.Prelude.{ℕ, ◌<◌, ◌≤◌, List, length}
use Rattle.hb_cell.specs.declared.cell.Cell.{Cell}
use Rattle.hb_cell.specs.declared.cell.TheConstants.{MAX_ROW, MAX_FAMILY, MAX_VALUE, NUMBER_LIMIT}

-- a row, a family and a qualifier that a cell's key can hold
pub record IsColumn (row family qualifier : List ℕ) : Type 0 where
  pub row_low : 1 ≤ length row
  pub row_high : length row ≤ MAX_ROW
  pub family_low : 1 ≤ length family
  pub family_high : length family ≤ MAX_FAMILY
  pub qualifier_high : length qualifier ≤ MAX_ROW

-- a cell within the limits
pub record IsCell (c : Cell) : Type 0 where
  pub column : IsColumn c.row c.family c.qualifier
  pub ts_high : c.ts < NUMBER_LIMIT
  pub seq_high : c.seq < NUMBER_LIMIT
  pub value_high : length c.value ≤ MAX_VALUE
