-- Cells that stand one after another (HBase Reference Guide, HFile format, data block).
use Rattle.std.specs.Prelude.{◌≡◌, ◌≢◌, ℕ, ◌+◌, Bool, List, [], ◌++◌, length, Result, Ok, Err}
use Rattle.std.specs.List.{flat_map, AllByRecursion}
use Rattle.hb_cell.specs.declared.cell.Cell.{Cell}
use Rattle.hb_cell.specs.declared.fault.CellError.{CellError}
use Rattle.hb_cell.specs.declared.fault.CellError.TheVariants as cells
use Rattle.hb_cell.specs.Limits.{IsCell}
use Rattle.hb_cell.specs.Stored.{stored, IsNumbered}
use Rattle.hb_cell.specs.Reading.{cell_at}
use Rattle.hfile_block.specs.declared.fault.HFileError.{HFileError}
use Rattle.hfile_block.specs.declared.fault.HFileError.TheVariants as errors

-- the bytes of cells, one after another
abbrev pub cells_bytes : Bool → List Cell → List ℕ
cells_bytes with_seq cells = flat_map (stored with_seq) cells

-- cells that can be stored so: each within its limits, and numbered 0 where no number is stored
abbrev pub IsStorable : Bool → Cell → Type 0
IsStorable with_seq c = IsCell c × IsNumbered with_seq c

abbrev pub AreStorable : Bool → List Cell → Type 0
AreStorable with_seq cells = AllByRecursion (IsStorable with_seq) cells

-- the content is cells up to a place, and no cell can be read there
pub record IsCellFault (with_seq : Bool) (content : List ℕ) (place : ℕ) (cause : CellError) : Type 0 where
  pub cells : List Cell
  pub rest : List ℕ
  pub storable : AreStorable with_seq cells
  pub whole : content ≡ cells_bytes with_seq cells ++ rest
  pub more : rest ≢ []
  pub here : place ≡ length (cells_bytes with_seq cells)
  pub fault : cell_at with_seq rest ≡ Err cause

-- the fault of a block of cells that begins at a place of the file, for what was wrong with one of its cells
abbrev pub block_fault : ℕ → CellError → HFileError
block_fault place cells.NoMemory = errors.NoMemory
block_fault place cause = errors.Cell place cause

-- why a block of cells that begins at a place of the file could not be read: one of its cells, or memory ran out
abbrev pub IsBlockFault : Bool → List ℕ → ℕ → HFileError → Type 0
IsBlockFault with_seq content at (errors.Cell place cause) = (from : ℕ) × (place ≡ at + from) × IsCellFault with_seq content from cause
IsBlockFault with_seq content at errors.NoMemory = Unit {0}
IsBlockFault with_seq content at _ = ⊥

-- these cells and no others, unless memory ran out
abbrev pub GivesCells : Result (List Cell) HFileError → List Cell → Type 0
GivesCells (Ok found) cells = found ≡ cells
GivesCells (Err errors.NoMemory) cells = Unit {0}
GivesCells (Err _) cells = ⊥
