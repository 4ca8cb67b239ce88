-- The one spelling of each cell in a file (HBase Reference Guide, HFile format, KeyValue).
use Rattle.std.specs.Prelude.{◌≡◌, ℕ, pos, Bool, true, false, List, [], ◌∷◌, ◌++◌, length}
use Rattle.hb_wire.specs.Fixed.{be_bytes}
use Rattle.hb_wire.specs.Vlong.{vlong}
use Rattle.hb_cell.specs.declared.cell.Cell.{Cell}
use Rattle.hb_cell.specs.declared.kind.Kind.{Kind}
use Rattle.hb_cell.specs.Kinds.{code}

-- two bytes of length, and the row
abbrev pub row_bytes : List ℕ → List ℕ
row_bytes row = be_bytes 2 (length row) ++ row

-- a byte of length, and the family
abbrev pub family_bytes : List ℕ → List ℕ
family_bytes family = length family ∷ family

-- the qualifier, eight bytes of timestamp, and the type code
abbrev pub version_bytes : List ℕ → ℕ → Kind → List ℕ
version_bytes qualifier ts kind = qualifier ++ (be_bytes 8 ts ++ code kind ∷ [])

-- a cell's key
abbrev pub key_bytes : List ℕ → List ℕ → List ℕ → ℕ → Kind → List ℕ
key_bytes row family qualifier ts kind = row_bytes row ++ (family_bytes family ++ version_bytes qualifier ts kind)

abbrev pub key : Cell → List ℕ
key c = key_bytes c.row c.family c.qualifier c.ts c.kind

-- the sequence number, in a file that has them
abbrev pub seq_bytes : Bool → ℕ → List ℕ
seq_bytes true seq = vlong (pos seq)
seq_bytes false seq = []

-- four bytes of key length, four of value length, the key, the value, and the sequence number
abbrev pub parts_bytes : List ℕ → List ℕ → List ℕ → List ℕ
parts_bytes key value seq = be_bytes 4 (length key) ++ (be_bytes 4 (length value) ++ (key ++ (value ++ seq)))

-- a stored cell
abbrev pub stored : Bool → Cell → List ℕ
stored with_seq c = parts_bytes (key c) c.value (seq_bytes with_seq c.seq)

-- without a number the sequence number is 0
abbrev pub IsNumbered : Bool → Cell → Type 0
IsNumbered true c = Unit {0}
IsNumbered false c = c.seq ≡ 0
