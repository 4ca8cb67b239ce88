-- What the file info tells of the cells of a file (HBase Reference Guide, HFile format, file info; HFileWriterImpl, HFileInfo).
use Rattle.std.specs.Prelude.{◌≡◌, ℕ, ◌≤◌, ◌+◌, ◌*◌, ◌/◌, ◌==◌, max, if◌then◌else◌, List, [], ◌∷◌, length, codes, Option, Some, None}
use Rattle.std.specs.List.{sum_by}
use Rattle.hb_wire.specs.Fixed.{be_bytes}
use Rattle.hb_cell.specs.declared.cell.Cell.{Cell}
use Rattle.hb_cell.specs.Limits.{IsCell}
use Rattle.hb_cell.specs.Stored.{key}
use Rattle.hfile_form.specs.DataCells.{last_or}
use Rattle.hfile_write.specs.declared.summary.Summary.{Summary}

-- the greatest sequence number, 0 without cells
abbrev pub greatest_seq : List Cell → ℕ
greatest_seq [] = 0
greatest_seq (c ∷ cells) = max c.seq (greatest_seq cells)

-- how many cells there are, how many bytes their keys and their values have, and their greatest sequence number
unfoldable pub summary_of : List Cell → Summary
summary_of cells = record {
  cells = length cells;
  key_bytes = sum_by (λ c. length (key c)) cells;
  value_bytes = sum_by (λ c. length c.value) cells;
  greatest = greatest_seq cells;
}

-- with one more cell
abbrev pub with_summary : Summary → Cell → Summary
with_summary s c = record {
  cells = s.cells + 1;
  key_bytes = s.key_bytes + length (key c);
  value_bytes = s.value_bytes + length c.value;
  greatest = max s.greatest c.seq;
}

-- the average, rounded down, 0 of none
abbrev pub average : ℕ → ℕ → ℕ
average total count = if count == 0 then 0 else total / count

-- the last key, where there is a cell
abbrev pub last_key : Option Cell → List (List ℕ × List ℕ)
last_key None = []
last_key (Some c) = (codes "hfile.LASTKEY", key c) ∷ []

-- the pairs, in the order of their keys
abbrev pub pairs_with : Summary → Option Cell → List (List ℕ × List ℕ)
pairs_with s last =
    (codes "KEY_VALUE_VERSION", be_bytes 4 1) ∷ (codes "MAX_MEMSTORE_TS_KEY", be_bytes 8 s.greatest)
    ∷ (codes "hfile.AVG_KEY_LEN", be_bytes 4 (average s.key_bytes s.cells)) ∷ (codes "hfile.AVG_VALUE_LEN", be_bytes 4 (average s.value_bytes s.cells))
    ∷ last_key last

abbrev pub pairs_of : List Cell → List (List ℕ × List ℕ)
pairs_of cells = pairs_with (summary_of cells) (last_or None cells)

-- the averages have their widths
pub record IsLow (s : Summary) : Type 0 where
  pub keys : s.key_bytes ≤ 65673 * s.cells
  pub values : s.value_bytes ≤ 10485760 * s.cells

-- the last cell is within its limits
abbrev pub IsLast : Option Cell → Type 0
IsLast None = Unit {0}
IsLast (Some c) = IsCell c

-- what a writer keeps of its cells beside their blocks
pub record IsTold (cells : List Cell) (s : Summary) (last : Option Cell) : Type 0 where
  pub summary_is : s ≡ summary_of cells
  pub last_is : last ≡ last_or None cells
  pub low : IsLow s
  pub fits : IsLast last
