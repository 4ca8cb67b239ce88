-- Reading a stored cell, with the first fault: whatever is missing comes before whatever is wrong.
use Rattle.std.specs.Prelude.{◌≡◌, ℕ, ◌+◌, ◌-◌, ℤ, pos, negsuc, Bool, true, false, ◌==◌, ◌||◌, nat_lt, nat_le, if◌then◌else◌, List, [], ◌∷◌, length, take, drop, slice_index, Option, Some, None, Result, Ok, Err}
use Rattle.hb_wire.specs.Fixed.{be_number}
use Rattle.hb_wire.specs.Vlong.{vlong_at}
use Rattle.hb_wire.specs.declared.fault.WireError.{WireError}
use Rattle.hb_wire.specs.declared.fault.WireError.TheVariants as wire
use Rattle.hb_cell.specs.declared.kind.Kind.{Kind}
use Rattle.hb_cell.specs.declared.cell.Cell.{Cell}
use Rattle.hb_cell.specs.declared.cell.TheConstants.{MAX_ROW, MAX_FAMILY, MAX_VALUE, NUMBER_LIMIT}
use Rattle.hb_cell.specs.declared.fault.CellError.{CellError}
use Rattle.hb_cell.specs.declared.fault.CellError.TheVariants as errors
use Rattle.hb_cell.specs.Kinds.{kind_of}

infixl 10 ◌>>=◌
abbrev pub ◌>>=◌ : {A B : Type 0} → Result A CellError → (A → Result B CellError) → Result B CellError
(Ok x) >>= f = f x
(Err e) >>= f = Err e

-- what a function answered, seen by view, is what reading gives, unless memory ran out
abbrev pub Fails : {Y : Type 0} → CellError → Result Y CellError → Type 0
Fails errors.NoMemory read = Unit {0}
Fails e read = read ≡ Err e

abbrev pub Gives : {X Y : Type 0} → (X → Y) → Result X CellError → Result Y CellError → Type 0
Gives view (Ok x) read = read ≡ Ok (view x)
Gives view (Err e) read = Fails e read

-- ---- the parts of a stored cell

-- a number that is not negative
abbrev pub natural : ℤ → Option ℕ
natural (pos n) = Some n
natural (negsuc m) = None

-- the number behind the value, and where it ends: none where it is negative or too long
abbrev pub seq_from : ℕ → Result (ℤ × ℕ) WireError → Result (Option ℕ × ℕ) CellError
seq_from at (Ok x) = Ok (natural x.0, at + x.1)
seq_from at (Err (wire.Short need)) = Err (errors.Short need)
seq_from at (Err wire.Overlong) = Ok (None, at)
seq_from at (Err (wire.BadWire tag)) = Ok (None, at)
seq_from at (Err wire.NoMemory) = Ok (None, at)

unfoldable pub seq_at : Bool → ℕ → List ℕ → Result (Option ℕ × ℕ) CellError
seq_at true at bytes = seq_from at (vlong_at bytes)
seq_at false at bytes = Ok (Some 0, at)

-- the key, the value and the number, none of them judged yet
pub record Parts : Type 0 where
  pub key : List ℕ
  pub value : List ℕ
  pub seq : Option ℕ
  pub used : ℕ

unfoldable pub parts_at : Bool → List ℕ → Result Parts CellError
parts_at with_seq bytes =
    let key_len = be_number 4 bytes in
    let value_len = be_number 4 (drop 4 bytes) in
    let whole = 8 + key_len + value_len in
    if nat_lt (length bytes) 8 then Err (errors.Short (8 - length bytes))
    else (if nat_lt (length bytes) whole then Err (errors.Short (whole - length bytes))
    else (do
      seq ← seq_at with_seq whole (drop whole bytes)
      Ok (record { key = take key_len (drop 8 bytes); value = take value_len (drop key_len (drop 8 bytes)); seq = seq.0; used = seq.1 })))

-- ---- the parts of a key

-- the row, and the bytes behind it
unfoldable pub row_at : List ℕ → Result (List ℕ × List ℕ) CellError
row_at bytes =
    let len = be_number 2 bytes in
    if nat_lt (length bytes) 2 then Err errors.FamilyLength
    else (if len == 0 || nat_lt MAX_ROW len then Err errors.RowLength
    else (if nat_lt (length (drop 2 bytes)) len then Err errors.FamilyLength
    else Ok (take len (drop 2 bytes), drop len (drop 2 bytes))))

-- the family, and the bytes behind it
unfoldable pub family_at : List ℕ → Result (List ℕ × List ℕ) CellError
family_at [] = Err errors.FamilyLength
family_at (len ∷ rest) =
    if len == 0 || nat_lt MAX_FAMILY len || nat_lt (length rest) len then Err errors.FamilyLength else Ok (take len rest, drop len rest)

-- the qualifier and the version behind it
pub record Version : Type 0 where
  pub qualifier : List ℕ
  pub ts : ℕ
  pub kind : Kind

abbrev pub version_of : List ℕ → ℕ → ℕ → Option Kind → Result Version CellError
version_of qualifier ts code None = Err (errors.Kind code)
version_of qualifier ts code (Some kind) =
    if nat_le NUMBER_LIMIT ts then Err errors.Timestamp else Ok (record { qualifier = qualifier; ts = ts; kind = kind })

unfoldable pub version_at : List ℕ → Result Version CellError
version_at bytes =
    let len = length bytes - 9 in
    let code = slice_index bytes (len + 8) in
    if nat_lt (length bytes) 9 || nat_lt MAX_ROW len then Err errors.FamilyLength
    else version_of (take len bytes) (be_number 8 (drop len bytes)) code (kind_of code)

-- ---- the whole cell

pub record Key : Type 0 where
  pub row : List ℕ
  pub family : List ℕ
  pub version : Version

unfoldable pub key_at : List ℕ → Result Key CellError
key_at bytes = do
  row ← row_at bytes
  family ← family_at row.1
  version ← version_at family.1
  Ok (record { row = row.0; family = family.0; version = version })

-- the cell of a key, a value and a number, and how many bytes it takes
abbrev pub with_seq_of : Key → List ℕ → Option ℕ → ℕ → Result (Cell × ℕ) CellError
with_seq_of key value None used = Err errors.Sequence
with_seq_of key value (Some seq) used =
    Ok (record { row = key.row; family = key.family; qualifier = key.version.qualifier; ts = key.version.ts; kind = key.version.kind; seq = seq; value = value }, used)

-- the cell at the front of the bytes and how many bytes it takes, or the first fault
unfoldable pub cell_at : Bool → List ℕ → Result (Cell × ℕ) CellError
cell_at with_seq bytes = do
  parts ← parts_at with_seq bytes
  key ← key_at parts.key
  if nat_lt MAX_VALUE (length parts.value) then Err errors.ValueLength else with_seq_of key parts.value parts.seq parts.used
