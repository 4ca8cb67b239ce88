-- The order of cells (HBase CellComparatorImpl), made total by the value.
use Rattle.std.specs.Prelude.{ℕ, List, Bool, nat_eq}
use Rattle.std.specs.declared.cmp.Ordering.{Ordering}
use Rattle.std.specs.Ordering.{nat_cmp, on, then_cmp, flip_args, is_lt}
use Rattle.std.specs.Cmp.Lexicographic.{slice_cmp, pointwise}
use Rattle.hb_cell.specs.declared.cell.Cell.{Cell}
use Rattle.hb_cell.specs.Kinds.{code}

-- byte strings as texts are ordered
abbrev pub bytes_cmp : List ℕ → List ℕ → Ordering
bytes_cmp = slice_cmp nat_cmp

-- whether two byte strings are equal
abbrev pub same_bytes : List ℕ → List ℕ → Bool
same_bytes = pointwise nat_eq

-- whether a byte string stands before another
abbrev pub is_below : List ℕ → List ℕ → Bool
is_below a b = is_lt (bytes_cmp a b)

-- numbers, the greatest first
abbrev pub newest_cmp : ℕ → ℕ → Ordering
newest_cmp = flip_args nat_cmp

-- by row, family and qualifier
abbrev pub column_cmp : Cell → Cell → Ordering
column_cmp = then_cmp (on (λ c. c.row) bytes_cmp) (then_cmp (on (λ c. c.family) bytes_cmp) (on (λ c. c.qualifier) bytes_cmp))

-- by timestamp, type code and sequence number, the greatest first
abbrev pub version_cmp : Cell → Cell → Ordering
version_cmp = then_cmp (on (λ c. c.ts) newest_cmp) (then_cmp (on (λ c. code c.kind) newest_cmp) (on (λ c. c.seq) newest_cmp))

-- by column, then by version, and the value breaks the last tie
abbrev pub key_cmp : Cell → Cell → Ordering
key_cmp = then_cmp column_cmp (then_cmp version_cmp (on (λ c. c.value) bytes_cmp))
