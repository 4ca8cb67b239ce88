-- The blocks of an HFile, one after another (HBase Reference Guide, HFile format; HFileBlock): a header, the content,
-- and checksums.
use Rattle.std.specs.Prelude.{◌≡◌, ℕ, zero, suc, ◌+◌, ◌==◌, nat_lt, Bool, true, false, if◌then◌else◌, List, [], ◌∷◌, ◌++◌, length, take, drop, Option, Some, None, Result, Ok, Err}
use Rattle.std.specs.List.{flat_map, AllByRecursion}
use Rattle.hfile_block.specs.declared.fault.HFileError.{HFileError}
use Rattle.hfile_block.specs.declared.fault.HFileError.TheVariants as errors
use Rattle.hfile_block.specs.declared.header.Header.{Header}
use Rattle.hfile_block.specs.declared.magic.Magic.{Magic}
use Rattle.hfile_block.specs.declared.magic.Magic.TheVariants as kinds
use Rattle.hfile_block.specs.Header.{magic_of, header_at, header_bytes, IsHeader}
use Rattle.hfile_form.specs.declared.section.Section.{Section}
use Rattle.hfile_form.specs.declared.section.Section.TheVariants as sections

-- a block: what stands behind its header has the content first, and then the checksums
pub record Block : Type 0 where
  pub header : Header
  pub body : List ℕ

abbrev pub content : Block → List ℕ
content b = take b.header.uncompressed b.body

abbrev pub size_of : Block → ℕ
size_of b = 33 + b.header.on_disk

abbrev pub block_spelling : Block → List ℕ
block_spelling b = header_bytes b.header ++ b.body

abbrev pub spelled : List Block → List ℕ
spelled blocks = flat_map block_spelling blocks

-- the kinds of block that may stand in a part of the file
abbrev pub may_stand : Section → Magic → Bool
may_stand sections.Front kinds.Data = true
may_stand sections.Front kinds.Leaf = true
may_stand sections.Front kinds.Intermediate = true
may_stand sections.Front kinds.Meta = true
may_stand sections.Front kinds.BloomPart = true
may_stand sections.Front _ = false
may_stand sections.Roots kinds.Root = true
may_stand sections.Roots _ = false
may_stand sections.Infos kinds.Info = true
may_stand sections.Infos _ = false
may_stand sections.Others _ = true

-- a block that may stand there
pub record IsBlock (section : Section) (b : Block) : Type 0 where
  pub header : IsHeader b.header
  pub size : length b.body ≡ b.header.on_disk
  pub kind : may_stand section b.header.magic ≡ true

abbrev pub AreBlocks : Section → List Block → Type 0
AreBlocks section blocks = AllByRecursion (IsBlock section) blocks

-- ---- reading

infixl 10 ◌>>=◌
abbrev pub ◌>>=◌ : {A B : Type 0} → Result A HFileError → (A → Result B HFileError) → Result B HFileError
(Ok x) >>= f = f x
(Err e) >>= f = Err e

abbrev pub allowed : Section → Option Magic → Bool
allowed section None = false
allowed section (Some magic) = may_stand section magic

-- the kind that the bytes begin with
abbrev pub kind_at : List ℕ → Option Magic
kind_at bytes = if nat_lt (length bytes) 8 then None else magic_of (take 8 bytes)

abbrev pub block_of : List ℕ → Header → Block
block_of bytes h = record { header = h; body = take h.on_disk (drop 33 bytes) }

-- the block at the front of the bytes, which stand at a place of the file, or the first fault: the kind, the checksum
-- type, the sizes
unfoldable pub block_at : Section → ℕ → List ℕ → Result Block HFileError
block_at section at bytes =
    if allowed section (kind_at bytes) then (header_at at bytes >>= λ h. Ok (block_of bytes h)) else Err (errors.Magic at)

-- what blocks one after another make of a value, each at its place
abbrev pub steps : {S : Type 0} → (ℕ → Block → S → Result S HFileError) → ℕ → List Block → S → Result S HFileError
steps step at [] s = Ok s
steps step at (b ∷ blocks) s = step at b s >>= λ next. steps step (at + size_of b) blocks next

-- the same, read from bytes that begin at a place, of at most so many blocks, or the first fault
abbrev pub blocks_at : {S : Type 0} → (ℕ → Block → S → Result S HFileError) → Section → ℕ → ℕ → List ℕ → S → Result S HFileError
blocks_at step section zero at bytes s = Ok s
blocks_at step section (suc more) at bytes s =
    if length bytes == 0 then Ok s
    else (do
      b ← block_at section at bytes
      next ← step at b s
      blocks_at step section more (at + size_of b) (drop (size_of b) bytes) next)
