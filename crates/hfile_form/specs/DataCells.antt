-- The cells of a data block and their order (HBase Reference Guide, HFile format, data block; CellComparatorImpl).
use Rattle.std.specs.Prelude.{◌≡◌, ◌≢◌, ℕ, zero, suc, ◌+◌, ◌==◌, Bool, true, false, if◌then◌else◌, List, [], ◌∷◌, length, drop, Option, Some, None, Result, Ok, Err}
use Rattle.std.specs.Ordering.{is_lt}
use Rattle.hb_cell.specs.declared.cell.Cell.{Cell}
use Rattle.hb_cell.specs.declared.fault.CellError.{CellError}
use Rattle.hb_cell.specs.declared.fault.CellError.TheVariants as causes
use Rattle.hb_cell.specs.Order.{key_cmp}
use Rattle.hb_cell.specs.Stored.{stored}
use Rattle.hb_cell.specs.Reading.{cell_at}
use Rattle.hfile_block.specs.declared.fault.HFileError.{HFileError}
use Rattle.hfile_block.specs.declared.fault.HFileError.TheVariants as errors
use Rattle.hfile_block.specs.CellBlock.{cells_bytes, AreStorable}
use Rattle.hfile_form.specs.Blocks.{◌>>=◌}

-- the content of a data block is these cells, of which there is at least one
pub record HoldsCells (with_seq : Bool) (content : List ℕ) (cells : List Cell) : Type 0 where
  pub storable : AreStorable with_seq cells
  pub whole : content ≡ cells_bytes with_seq cells
  pub some : cells ≢ []

-- a cell stands above the one before it
abbrev pub is_above : Option Cell → Cell → Bool
is_above None c = true
is_above (Some before) c = is_lt (key_cmp before c)

-- each cell stands above the one before it
abbrev pub Ascends : Option Cell → List Cell → Type 0
Ascends last [] = Unit {0}
Ascends last (c ∷ cells) = (is_above last c ≡ true) × Ascends (Some c) cells

-- the last cell
abbrev pub last_or : Option Cell → List Cell → Option Cell
last_or last [] = last
last_or last (c ∷ cells) = last_or (Some c) cells

-- ---- reading

abbrev pub one_at : ℕ → Result (Cell × ℕ) CellError → Result (Cell × ℕ) HFileError
one_at at (Ok x) = Ok x
one_at at (Err cause) = Err (errors.Cell at cause)

-- at most so many cells, to the end of bytes that begin at a place, or the first that cannot be read
abbrev pub cells_at : Bool → ℕ → ℕ → List ℕ → Result (List Cell) HFileError
cells_at with_seq zero at bytes = Ok []
cells_at with_seq (suc more) at bytes =
    if length bytes == 0 then Ok []
    else (do
      x ← one_at at (cell_at with_seq bytes)
      cells ← cells_at with_seq more (at + x.1) (drop x.1 bytes)
      Ok (x.0 ∷ cells))

-- the place of the first cell that does not stand above the one before it
abbrev pub misplaced : Bool → ℕ → Option Cell → List Cell → Option ℕ
misplaced with_seq at last [] = None
misplaced with_seq at last (c ∷ cells) = if is_above last c then misplaced with_seq (at + length (stored with_seq c)) (Some c) cells else Some at

-- the place that was found first
abbrev pub or_first : Option ℕ → Option ℕ → Option ℕ
or_first None next = next
or_first (Some at) next = Some at

abbrev pub ordered : List Cell → Option ℕ → Result (List Cell) HFileError
ordered cells None = Ok cells
ordered cells (Some at) = Err (errors.Order at)

-- the cells of a data block, or the first fault: that of a cell, then that of the order. An empty block lacks its first
-- cell.
unfoldable pub data_at : Bool → ℕ → Option Cell → List ℕ → Result (List Cell) HFileError
data_at with_seq at last content =
    if length content == 0 then Err (errors.Cell at (causes.Short 8))
    else (do
      cells ← cells_at with_seq (length content) at content
      ordered cells (misplaced with_seq at last cells))
