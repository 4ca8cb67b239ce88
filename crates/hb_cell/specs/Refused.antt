-- What a fault says of the bytes in which a cell was looked for, whatever stands behind them.
use Rattle.std.specs.Prelude.{◌≢◌, ℕ, ◌+◌, ◌<◌, ◌≤◌, Bool, List, ◌++◌, length, drop}
use Rattle.hb_wire.specs.Fixed.{be_number}
use Rattle.hb_cell.specs.declared.cell.Cell.{Cell}
use Rattle.hb_cell.specs.declared.fault.CellError.{CellError}
use Rattle.hb_cell.specs.declared.fault.CellError.TheVariants as errors
use Rattle.hb_cell.specs.Limits.{IsCell}
use Rattle.hb_cell.specs.Stored.{stored, IsNumbered}

-- no cell stands at the front of the bytes
abbrev pub BeginsWithNone : Bool → List ℕ → Type 0
BeginsWithNone with_seq bytes = (cell : Cell) (rest : List ℕ) → IsCell cell → IsNumbered with_seq cell → bytes ≢ stored with_seq cell ++ rest

-- the lengths of the key and of the value stand there, and as many bytes behind them
abbrev pub HasKeyAndValue : List ℕ → Type 0
HasKeyAndValue bytes = (8 ≤ length bytes) × (8 + be_number 4 bytes + be_number 4 (drop 4 bytes) ≤ length bytes)

-- nothing of what is wrong is missing, and nothing that follows mends it
pub record IsWrong (with_seq : Bool) (bytes : List ℕ) : Type 0 where
  pub there : HasKeyAndValue bytes
  pub lasting : (more : List ℕ) → BeginsWithNone with_seq (bytes ++ more)

-- with fewer bytes behind these than are missing no cell stands at their front; any other fault is wrong for good
abbrev pub IsRefusedFor : Bool → List ℕ → CellError → Type 0
IsRefusedFor with_seq bytes (errors.Short missing) = (more : List ℕ) → length more < missing → BeginsWithNone with_seq (bytes ++ more)
IsRefusedFor with_seq bytes errors.RowLength = IsWrong with_seq bytes
IsRefusedFor with_seq bytes errors.FamilyLength = IsWrong with_seq bytes
IsRefusedFor with_seq bytes (errors.Kind code) = IsWrong with_seq bytes
IsRefusedFor with_seq bytes errors.Timestamp = IsWrong with_seq bytes
IsRefusedFor with_seq bytes errors.ValueLength = IsWrong with_seq bytes
IsRefusedFor with_seq bytes errors.Sequence = IsWrong with_seq bytes
IsRefusedFor with_seq bytes errors.NoMemory = Unit {0}
