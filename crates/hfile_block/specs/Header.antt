-- The header of a block (HBase Reference Guide, HFile format, block header; HFileBlock): magic, on-disk size without
-- header, uncompressed size without header, offset of the previous block of its kind, checksum type, bytes per
-- checksum, on-disk data size with header.
use Rattle.std.specs.Prelude.{◌≡◌, ◌<◌, ◌≤◌, ℕ, ◌^◌, FitsSigned, true, ◌+◌, ◌-◌, ◌*◌, ◌/◌, ℤ, Bool, ◌==◌, ◌||◌, ◌&&◌, not, nat_eq, nat_lt, nat_le, if◌then◌else◌, List, ◌∷◌, ◌++◌, length, take, drop, slice_index, codes, Option, Some, None, Result, Ok, Err}
use Rattle.std.specs.Int.{w64, cast_signed, cast_unsigned}
use Rattle.std.specs.Cmp.Lexicographic.{pointwise}
use Rattle.hb_wire.specs.Fixed.{be_bytes, be_number}
use Rattle.hfile_block.specs.declared.fault.HFileError.{HFileError}
use Rattle.hfile_block.specs.declared.fault.HFileError.TheVariants as errors
use Rattle.hfile_block.specs.declared.header.Header.{Header}
use Rattle.hfile_block.specs.declared.magic.Magic.{Magic}
use Rattle.hfile_block.specs.declared.magic.Magic.TheVariants as kinds

-- the bytes that a block of a kind begins with (HBase BlockType)
unfoldable pub magic_bytes : Magic → List ℕ
magic_bytes kinds.Data = codes "DATABLK*"
magic_bytes kinds.Leaf = codes "IDXLEAF2"
magic_bytes kinds.Intermediate = codes "IDXINTE2"
magic_bytes kinds.Root = codes "IDXROOT2"
magic_bytes kinds.Meta = codes "METABLKc"
magic_bytes kinds.Info = codes "FILEINF2"
magic_bytes kinds.BloomPart = codes "BLMFBLK2"
magic_bytes kinds.BloomMeta = codes "BLMFMET2"
magic_bytes kinds.DeleteBloomMeta = codes "DFBLMET2"
magic_bytes kinds.Trailer = codes "TRABLK\"$"

-- the kind whose bytes these are
unfoldable pub magic_of : List ℕ → Option Magic
magic_of front =
    let is : Magic → Bool = λ m. pointwise nat_eq front (magic_bytes m) in
    if is kinds.Data then Some kinds.Data
    else (if is kinds.Leaf then Some kinds.Leaf
    else (if is kinds.Intermediate then Some kinds.Intermediate
    else (if is kinds.Root then Some kinds.Root
    else (if is kinds.Meta then Some kinds.Meta
    else (if is kinds.Info then Some kinds.Info
    else (if is kinds.BloomPart then Some kinds.BloomPart
    else (if is kinds.BloomMeta then Some kinds.BloomMeta
    else (if is kinds.DeleteBloomMeta then Some kinds.DeleteBloomMeta
    else (if is kinds.Trailer then Some kinds.Trailer else None)))))))))

-- the bytes of a header
unfoldable pub header_bytes : Header → List ℕ
header_bytes h =
    magic_bytes h.magic ++ (be_bytes 4 h.on_disk ++ (be_bytes 4 h.uncompressed ++ (be_bytes 8 (cast_unsigned w64 h.previous)
    ++ (h.checksum ∷ (be_bytes 4 h.per ++ be_bytes 4 h.data_size)))))

-- how long the checksums are: four bytes for each started piece of what they cover, and none where no piece is told
abbrev pub sums_len : ℕ → ℕ → ℕ
sums_len covered per = if per == 0 then 0 else 4 * ((covered + per - 1) / per)

-- the sizes agree with each other: a block without checksums may have room for them or not
abbrev pub sizes_agree : Header → Bool
sizes_agree h =
    (h.data_size == 33 + h.uncompressed)
    && ((not (h.per == 0) && (h.on_disk == h.uncompressed + sums_len h.data_size h.per)) || ((h.checksum == 0) && (h.on_disk == h.uncompressed)))

-- the header whose fields stand at the front of the bytes, of a kind that is known already
abbrev pub fields_of : Magic → List ℕ → Header
fields_of magic bytes = record {
  magic = magic;
  on_disk = be_number 4 (drop 8 bytes);
  uncompressed = be_number 4 (drop 12 bytes);
  previous = cast_signed w64 (be_number 8 (drop 16 bytes));
  checksum = slice_index bytes 24;
  per = be_number 4 (drop 25 bytes);
  data_size = be_number 4 (drop 29 bytes);
}

-- a header that is judged: its checksum type is known, its sizes agree, and the bytes hold the block
abbrev pub judged : ℕ → ℕ → Header → Result Header HFileError
judged at len h =
    if nat_lt 2 h.checksum then Err (errors.Checksum h.checksum)
    else (if sizes_agree h && nat_le (33 + h.on_disk) len then Ok h else Err (errors.Size at))

abbrev pub header_of : ℕ → List ℕ → Option Magic → Result Header HFileError
header_of at bytes None = Err (errors.Magic at)
header_of at bytes (Some magic) = if nat_lt (length bytes) 33 then Err (errors.Size at) else judged at (length bytes) (fields_of magic bytes)

-- the header at the front of the bytes, which stand at a place of the file, or the first fault
unfoldable pub header_at : ℕ → List ℕ → Result Header HFileError
header_at at bytes = if nat_lt (length bytes) 8 then Err (errors.Magic at) else header_of at bytes (magic_of (take 8 bytes))

-- the header that is written: no checksums, and room for none
abbrev pub written_header : Magic → ℕ → ℤ → Header
written_header magic len previous = record { magic = magic; on_disk = len; uncompressed = len; previous = previous; checksum = 0; per = 16384; data_size = 33 + len }

-- a written block
unfoldable pub block_bytes : Magic → List ℕ → ℤ → List ℕ
block_bytes magic content previous = header_bytes (written_header magic (length content) previous) ++ content

-- a header that a block can have: each number has its width, the checksum type is known, and the sizes agree
pub record IsHeader (h : Header) : Type 0 where
  pub on_disk : h.on_disk < 2 ^ 32
  pub uncompressed : h.uncompressed < 2 ^ 32
  pub previous : FitsSigned w64 h.previous
  pub checksum : h.checksum ≤ 2
  pub per : h.per < 2 ^ 32
  pub data_size : h.data_size < 2 ^ 32
  pub agree : sizes_agree h ≡ true

-- the bytes begin with a header, and hold the block
pub record BeginsWith (bytes : List ℕ) (h : Header) : Type 0 where
  pub is : IsHeader h
  pub whole : bytes ≡ header_bytes h ++ drop 33 bytes
  pub room : h.on_disk ≤ length (drop 33 bytes)
