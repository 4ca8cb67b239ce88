-- The trailer of an HFile of version 2 (HBase Reference Guide, HFile format, trailer; FixedFileTrailer): its last 212
-- bytes are a magic, a message with its length before it, zeros, and four bytes of version, the minor number first.
use Rattle.std.specs.Prelude.{◌≡◌, ◌⊎◌, ℕ, ◌-◌, ◌^◌, ◌==◌, nat_lt, if◌then◌else◌, List, ◌∷◌, ◌++◌, length, drop, replicate, codes, Option, Some, None, Result, Ok, Err}
use Rattle.hb_wire.specs.Fixed.{be_bytes, be_number}
use Rattle.wire_fields.specs.Varint.{varint}
use Rattle.wire_fields.specs.Fields.{Part}
use Rattle.wire_fields.specs.Message.{last_number}
use Rattle.hfile_meta.specs.declared.fault.MetaError.{MetaError}
use Rattle.hfile_meta.specs.declared.fault.MetaError.TheVariants as errors
use Rattle.hfile_meta.specs.declared.trailer.Trailer.{Trailer}
use Rattle.hfile_meta.specs.declared.trailer.Told.{Told}

-- ---- the form

-- the magic of a trailer (HBase BlockType.TRAILER)
abbrev pub magic : List ℕ
magic = codes "TRABLK\"$"

-- a message behind its length
abbrev pub delimited : List ℕ → List ℕ
delimited message = varint (length message) ++ message

-- a message with its length before it, and zeros behind it
abbrev pub padded : List ℕ → ℕ → List ℕ
padded message zeros = delimited message ++ replicate zeros 0

-- the minor numbers that are read
abbrev pub IsMinor : ℕ → Type 0
IsMinor minor = (minor ≡ 2) ⊎ (minor ≡ 3)

-- the bytes of a trailer
abbrev pub trailer_bytes : List ℕ → ℕ → ℕ → List ℕ
trailer_bytes message zeros minor = magic ++ (padded message zeros ++ (minor ∷ be_bytes 3 2))

-- where the trailer of a file begins
abbrev pub trailer_at : List ℕ → ℕ
trailer_at bytes = length bytes - 212

-- the last 212 bytes are a trailer with this message
pub record IsTrailer (bytes message : List ℕ) (zeros minor : ℕ) : Type 0 where
  pub is_minor : IsMinor minor
  pub whole : drop (trailer_at bytes) bytes ≡ trailer_bytes message zeros minor

-- the major number of the version
abbrev pub major_of : List ℕ → ℕ
major_of bytes = be_number 3 (drop (length bytes - 3) bytes)

-- ---- the message

-- what a message tells
abbrev pub told : List (ℕ × Part) → Told
told parts = record {
  info_at = last_number 1 parts;
  load_at = last_number 2 parts;
  index_bytes = last_number 3 parts;
  total_bytes = last_number 4 parts;
  data_count = last_number 5 parts;
  meta_count = last_number 6 parts;
  entries = last_number 7 parts;
  levels = last_number 8 parts;
  first = last_number 9 parts;
  last = last_number 10 parts;
  compression = last_number 12 parts;
}

abbrev pub or_else : ℕ → Option ℕ → ℕ
or_else other None = other
or_else other (Some n) = n

abbrev pub needs : Option ℕ → (ℕ → Option Trailer) → Option Trailer
needs None next = None
needs (Some n) next = next n

-- the trailer that a message tells: the places of the file info and of the parts that are loaded on open, the counts of
-- data blocks and of entries and the index levels are needed; a method of compression has 32 bits, and is 2 where none
-- is told
unfoldable pub trailer_of : Told → Option Trailer
trailer_of t =
    needs t.info_at (λ info_at.
    needs t.load_at (λ load_at.
    needs t.data_count (λ data_count.
    needs t.entries (λ entries.
    needs t.levels (λ levels.
    if nat_lt (or_else 2 t.compression) (2 ^ 32) then Some (record {
      info_at = info_at;
      load_at = load_at;
      index_bytes = or_else 0 t.index_bytes;
      total_bytes = or_else 0 t.total_bytes;
      data_count = data_count;
      meta_count = or_else 0 t.meta_count;
      entries = entries;
      levels = levels;
      first = or_else 0 t.first;
      last = or_else 0 t.last;
      compression = or_else 2 t.compression;
    }) else None)))))

-- the answer for what a message tells: blocks that are not compressed have method 2
abbrev pub judged : ℕ → Option Trailer → Result Trailer MetaError
judged at None = Err (errors.BadTrailer at)
judged at (Some t) = if t.compression == 2 then Ok t else Err (errors.Compressed t.compression)
