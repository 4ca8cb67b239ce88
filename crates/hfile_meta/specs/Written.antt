-- The trailer that is written (HBase Reference Guide, HFile format, trailer; FixedFileTrailer): each field once, in the
-- order of their numbers, and the name of the comparator; and the file info that is written.
use Rattle.std.specs.Prelude.{ℕ, ◌-◌, ◌<◌, ◌^◌, List, [], ◌∷◌, ◌++◌, length, codes}
use Rattle.std.specs.List.{flat_map}
use Rattle.wire_fields.specs.Fields.{Part, number, text, field_bytes}
use Rattle.wire_fields.specs.Message.{message_bytes}
use Rattle.hfile_meta.specs.declared.trailer.Trailer.{Trailer}
use Rattle.hfile_meta.specs.Trailer.{delimited, trailer_bytes}

-- the name of the order of cells (HBase CellComparatorImpl)
abbrev pub comparator : List ℕ
comparator = codes "org.apache.hadoop.hbase.CellComparatorImpl"

-- the fields of a written message
abbrev pub written_parts : Trailer → List (ℕ × Part)
written_parts t =
    (1, number t.info_at) ∷ (2, number t.load_at) ∷ (3, number t.index_bytes) ∷ (4, number t.total_bytes) ∷ (5, number t.data_count) ∷ (6, number t.meta_count)
    ∷ (7, number t.entries) ∷ (8, number t.levels) ∷ (9, number t.first) ∷ (10, number t.last) ∷ (11, text comparator) ∷ (12, number t.compression) ∷ []

-- the field with that name
unfoldable pub comparator_bytes : List ℕ
comparator_bytes = field_bytes 11 (text comparator)

-- the first six fields, and the others
unfoldable pub first_bytes : Trailer → List ℕ
first_bytes t =
    field_bytes 1 (number t.info_at) ++ (field_bytes 2 (number t.load_at) ++ (field_bytes 3 (number t.index_bytes)
    ++ (field_bytes 4 (number t.total_bytes) ++ (field_bytes 5 (number t.data_count) ++ field_bytes 6 (number t.meta_count)))))

unfoldable pub other_bytes : Trailer → List ℕ
other_bytes t =
    field_bytes 7 (number t.entries) ++ (field_bytes 8 (number t.levels) ++ (field_bytes 9 (number t.first)
    ++ (field_bytes 10 (number t.last) ++ (comparator_bytes ++ field_bytes 12 (number t.compression)))))

unfoldable pub written_message : Trailer → List ℕ
written_message t = message_bytes (written_parts t)

-- a written trailer: the minor number is 3
unfoldable pub written_trailer : Trailer → List ℕ
written_trailer t = trailer_bytes (written_message t) (200 - length (delimited (written_message t))) 3

-- the numbers of a trailer have 64 bits, and the method of compression 32
pub record FitsTrailer (t : Trailer) : Type 0 where
  pub info_at : t.info_at < 2 ^ 64
  pub load_at : t.load_at < 2 ^ 64
  pub index_bytes : t.index_bytes < 2 ^ 64
  pub total_bytes : t.total_bytes < 2 ^ 64
  pub data_count : t.data_count < 2 ^ 64
  pub meta_count : t.meta_count < 2 ^ 64
  pub entries : t.entries < 2 ^ 64
  pub levels : t.levels < 2 ^ 64
  pub first : t.first < 2 ^ 64
  pub last : t.last < 2 ^ 64
  pub compression : t.compression < 2 ^ 32

-- ---- the file info

-- a pair as a message: its key, then its value
unfoldable pub pair_bytes : List ℕ × List ℕ → List ℕ
pair_bytes pair = field_bytes 1 (text pair.0) ++ field_bytes 2 (text pair.1)

-- the pairs, each a value of field 1, in their order
abbrev pub pair_fields : List (List ℕ × List ℕ) → List ℕ
pair_fields pairs = flat_map (λ (pair : List ℕ × List ℕ). field_bytes 1 (text (pair_bytes pair))) pairs

-- the content of a written file info (HBase Reference Guide, HFile format, file info; HFileInfo)
unfoldable pub written_info : List (List ℕ × List ℕ) → List ℕ
written_info pairs = codes "PBUF" ++ delimited (pair_fields pairs)
