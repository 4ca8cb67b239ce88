-- The keys of an index (HBase Reference Guide, HFile format, block index; KeyValue): a cell's key without a sequence
-- number. A writer may put one that is shortened between two blocks (HBase HFileWriterImpl.getMidpoint): its family may
-- be empty, and its type code 255.
use Rattle.std.specs.Prelude.{ℕ, ◌+◌, ◌-◌, ◌^◌, Bool, ◌==◌, ◌||◌, not, nat_lt, nat_le, if◌then◌else◌, List, [], ◌∷◌, length, take, drop, slice_index, Option, Some, None}
use Rattle.std.specs.declared.cmp.Ordering.{Ordering}
use Rattle.std.specs.Ordering.{on, then_cmp}
use Rattle.hb_wire.specs.Fixed.{be_number}
use Rattle.hb_cell.specs.declared.cell.Cell.{Cell}
use Rattle.hb_cell.specs.Kinds.{code}
use Rattle.hb_cell.specs.Order.{bytes_cmp, newest_cmp}

-- the parts of an index key
pub record KeyParts : Type 0 where
  pub row : List ℕ
  pub family : List ℕ
  pub qualifier : List ℕ
  pub ts : ℕ
  pub code : ℕ

-- the type codes of an index key: those of cells, and the greatest one
abbrev pub is_index_code : ℕ → Bool
is_index_code n = (n == 4) || (n == 8) || (n == 12) || (n == 14) || (n == 255)

-- the parts that the key of a cell has
abbrev pub parts_of_cell : Cell → KeyParts
parts_of_cell c = record { row = c.row; family = c.family; qualifier = c.qualifier; ts = c.ts; code = code c.kind }

-- the order of index keys, and of an index key and a cell: that of cells up to the type code
abbrev pub parts_cmp : KeyParts → KeyParts → Ordering
parts_cmp =
    then_cmp (on (λ k. k.row) bytes_cmp) (then_cmp (on (λ k. k.family) bytes_cmp) (then_cmp (on (λ k. k.qualifier) bytes_cmp)
    (then_cmp (on (λ k. k.ts) newest_cmp) (on (λ k. k.code) newest_cmp))))

-- ---- reading

infixl 10 ◌>>=◌
abbrev pub ◌>>=◌ : {A B : Type 0} → Option A → (A → Option B) → Option B
(Some x) >>= f = f x
None >>= f = None

-- the row at the front, and the bytes behind it
unfoldable pub row_at : List ℕ → Option (List ℕ × List ℕ)
row_at bytes =
    let len = be_number 2 bytes in
    if nat_lt (length bytes) 2 || len == 0 || nat_lt 32767 len || nat_lt (length (drop 2 bytes)) len then None
    else Some (take len (drop 2 bytes), drop len (drop 2 bytes))

-- the family at the front, and the bytes behind it
unfoldable pub family_at : List ℕ → Option (List ℕ × List ℕ)
family_at [] = None
family_at (len ∷ rest) = if nat_lt 127 len || nat_lt (length rest) len then None else Some (take len rest, drop len rest)

-- the qualifier, the timestamp and the type code
unfoldable pub version_at : List ℕ → Option (List ℕ × ℕ × ℕ)
version_at bytes =
    let len = length bytes - 9 in
    let ts = be_number 8 (drop len bytes) in
    let code = slice_index bytes (len + 8) in
    if nat_lt (length bytes) 9 || nat_lt 32767 len || nat_le (2 ^ 63) ts || not (is_index_code code) then None
    else Some (take len bytes, ts, code)

-- the parts of an index key, where the bytes are one
unfoldable pub key_at : List ℕ → Option KeyParts
key_at bytes = do
  row ← row_at bytes
  family ← family_at row.1
  version ← version_at family.1
  Some (record { row = row.0; family = family.0; qualifier = version.0; ts = version.1; code = version.2 })
