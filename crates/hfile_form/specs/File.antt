-- An HFile as a whole, and the first fault of bytes that are none (HBase Reference Guide, HFile format; FixedFileTrailer,
-- HFileInfo, HFileBlock, HFileBlockIndex).
use Rattle.std.specs.Prelude.{◌≡◌, ◌≢◌, ◌≤◌, ◌<◌, ◌⊎◌, ◌↔◌, EachIndex, slice_index, ℕ, ◌+◌, ◌^◌, ◌==◌, ◌&&◌, nat_lt, Bool, true, false, if◌then◌else◌, List, [], ◌∷◌, ◌++◌, length, take, drop, Option, Some, None, Result, Ok, Err}
use Rattle.hb_cell.specs.declared.cell.Cell.{Cell}
use Rattle.wire_fields.specs.Fields.{Part as Field}
use Rattle.wire_fields.specs.Message.{IsMessage}
use Rattle.hfile_block.specs.declared.fault.HFileError.{HFileError}
use Rattle.hfile_block.specs.declared.fault.HFileError.TheVariants as errors
use Rattle.hfile_block.specs.CellBlock.{GivesCells}
use Rattle.hfile_index.specs.declared.entry.IndexEntry.{IndexEntry}
use Rattle.hfile_index.specs.declared.root.RootNode.{RootNode}
use Rattle.hfile_index.specs.Entries.{root_node_at}
use Rattle.hfile_meta.specs.declared.fault.MetaError.{MetaError}
use Rattle.hfile_meta.specs.declared.fault.MetaError.TheVariants as metas
use Rattle.hfile_meta.specs.declared.trailer.Trailer.{Trailer}
use Rattle.hfile_meta.specs.Trailer.{IsTrailer, trailer_at, major_of, told, trailer_of, judged}
use Rattle.hfile_meta.specs.Info.{IsInfo, is_encoded, with_numbers}
use Rattle.hfile_form.specs.declared.section.Section.TheVariants as sections
use Rattle.hfile_form.specs.Blocks.{Block, content, size_of, block_spelling, spelled, IsBlock, AreBlocks, block_at, blocks_at, ◌>>=◌}
use Rattle.hfile_form.specs.DataCells.{Ascends}
use Rattle.hfile_form.specs.Front.{Front, no_front, Part, AreHeld, blocks_of, cells_of, joined, taken}
use Rattle.hfile_form.specs.Index.{Left, index_from}

-- ---- versions

-- the versions of the format: each has its trailer. Another version joins as a case
pub data Format : Type 0 where
  version_two : Format

-- the bytes end in a trailer of the version, and this is what its message tells
abbrev pub TrailerTells : Format → List ℕ → Result Trailer MetaError → Type 0
TrailerTells version_two bytes answer =
    (message : List ℕ) × (parts : List (ℕ × Field)) × (zeros : ℕ) × (minor : ℕ) × (212 ≤ length bytes) × IsTrailer bytes message zeros minor × IsMessage message parts
    × (answer ≡ judged (trailer_at bytes) (trailer_of (told parts)))

-- no trailer of the version stands at the end of bytes that are long enough
abbrev pub HasNoTrailer : Format → List ℕ → Type 0
HasNoTrailer version_two bytes =
    (212 ≤ length bytes) × (major_of bytes ≡ 2)
    × ((message : List ℕ) (parts : List (ℕ × Field)) (zeros minor : ℕ) → IsTrailer bytes message zeros minor → IsMessage message parts → ⊥)

-- ---- the index

-- the entries of a root: only one of more than one level has a middle key
abbrev pub root_of : ℕ → Option RootNode → Option (List IndexEntry)
root_of levels None = None
root_of levels (Some node) = if node.middle && (levels == 1) then None else Some node.entries

abbrev pub in_index : {A : Type 0} → Result A ℕ → Result A HFileError
in_index (Ok x) = Ok x
in_index (Err at) = Err (errors.BadIndex at)

abbrev pub index_of_root : Trailer → Option (List IndexEntry) → Front → Result (Unit {0}) ℕ
index_of_root t None front = Err t.load_at
index_of_root t (Some es) front = index_from front.cells t.levels t.load_at es (record { nodes = front.nodes; datas = front.datas })

-- the root of the index in a block leads through its levels to the data blocks, exactly and in order; or the place of
-- the first node that is wrong
unfoldable pub index_of : Trailer → Block → Front → Result (Unit {0}) ℕ
index_of t root front =
    if nat_lt t.data_count (2 ^ 32) then index_of_root t (root_of t.levels (root_node_at t.data_count (content root))) front else Err t.load_at

-- ---- the whole file

-- the bytes are an HFile of these cells: blocks one after another, the root of the index and the index of meta blocks,
-- the file info, blocks that are passed over, and the trailer
pub record IsFile (format : Format) (bytes : List ℕ) (cells : List Cell) : Type 0 where
  pub trailer : Trailer
  pub parts : List Part
  pub root : Block
  pub meta : Block
  pub info : Block
  pub others : List Block
  pub pairs : List (List ℕ × List ℕ)
  pub tells : TrailerTells format bytes (Ok trailer)
  pub whole : take (trailer_at bytes) bytes ≡ spelled (blocks_of parts) ++ (block_spelling root ++ (block_spelling meta ++ (block_spelling info ++ spelled others)))
  pub are_blocks : AreBlocks sections.Front (blocks_of parts)
  pub is_root : IsBlock sections.Roots root
  pub is_meta : IsBlock sections.Roots meta
  pub is_info : IsBlock sections.Infos info
  pub are_others : AreBlocks sections.Others others
  pub load_at : trailer.load_at ≡ length (spelled (blocks_of parts))
  pub info_at : trailer.info_at ≡ trailer.load_at + size_of root + size_of meta
  pub tells_pairs : IsInfo (content info) pairs
  pub not_encoded : is_encoded pairs ≡ false
  pub held : AreHeld (with_numbers pairs) parts
  pub cells_are : cells ≡ cells_of parts
  pub ascends : Ascends None cells
  pub index : index_of trailer root (joined 0 parts no_front) ≡ Ok tt
  pub count : trailer.entries ≡ length cells

abbrev pub IsHFile : List ℕ → List Cell → Type 0
IsHFile bytes cells = IsFile version_two bytes cells

-- ---- the first fault

-- the parts that are loaded on open
pub record Opened : Type 0 where
  pub root : Block
  pub meta : Block
  pub info : Block

-- these parts in the bytes before the trailer, or the first fault
abbrev pub info_of : Trailer → Block → Block → List ℕ → Result Opened HFileError
info_of t root meta body =
    if t.info_at == t.load_at + size_of root + size_of meta then (block_at sections.Infos t.info_at (drop t.info_at body) >>= λ info. Ok (record { root = root; meta = meta; info = info }))
    else Err (errors.BadInfo t.info_at)

abbrev pub opened_at : Trailer → List ℕ → Result Opened HFileError
opened_at t body = do
  root ← block_at sections.Roots t.load_at (drop t.load_at body)
  meta ← block_at sections.Roots (t.load_at + size_of root) (drop (t.load_at + size_of root) body)
  info_of t root meta body

-- a block that is passed over
abbrev pub passed : ℕ → Block → Unit {0} → Result (Unit {0}) HFileError
passed at b done = Ok done

abbrev pub counted : Trailer → List Cell → Result (List Cell) HFileError
counted t cells = if t.entries == length cells then Ok cells else Err (errors.Count t.entries (length cells))

-- the blocks in their order, then the index, then the count
abbrev pub behind_info : Trailer → Opened → ℕ
behind_info t o = t.info_at + size_of o.info

abbrev pub rest_at : Trailer → Opened → Bool → List ℕ → Result (List Cell) HFileError
rest_at t o with_seq body = do
  front ← blocks_at (taken with_seq) sections.Front (length body) 0 (take t.load_at body) no_front
  done ← blocks_at passed sections.Others (length body) (behind_info t o) (drop (behind_info t o) body) tt
  listed ← in_index (index_of t o.root front)
  counted t front.cells

abbrev pub as_fault : MetaError → HFileError
as_fault (metas.BadTrailer at) = errors.BadTrailer at
as_fault (metas.Version n) = errors.Version n
as_fault (metas.Compressed n) = errors.Compressed n
as_fault (metas.BadInfo at) = errors.BadInfo at
as_fault metas.Encoded = errors.Encoded
as_fault metas.NoMemory = errors.NoMemory

-- what is wrong with the trailer: the length, the major version, the form and the fields, the compression
abbrev pub IsTrailerFault : List ℕ → HFileError → Type 0
IsTrailerFault bytes fault =
    ((length bytes < 212) × (fault ≡ errors.BadTrailer (length bytes)))
    ⊎ ((212 ≤ length bytes) × (major_of bytes ≢ 2) × (fault ≡ errors.Version (major_of bytes)))
    ⊎ (HasNoTrailer version_two bytes × (fault ≡ errors.BadTrailer (trailer_at bytes)))
    ⊎ ((e : MetaError) × TrailerTells version_two bytes (Err e) × (fault ≡ as_fault e))

-- what is wrong with the file info at a place
abbrev pub IsInfoFault : List ℕ → ℕ → HFileError → Type 0
IsInfoFault bytes at fault =
    (((pairs : List (List ℕ × List ℕ)) → IsInfo bytes pairs → ⊥) × (fault ≡ errors.BadInfo at))
    ⊎ ((pairs : List (List ℕ × List ℕ)) × IsInfo bytes pairs × (is_encoded pairs ≡ true) × (fault ≡ errors.Encoded))

-- what is wrong behind the parts that are loaded on open
abbrev pub IsRestFault : Trailer → Opened → List ℕ → HFileError → Type 0
IsRestFault t o body fault =
    (pairs : List (List ℕ × List ℕ)) × IsInfo (content o.info) pairs × (is_encoded pairs ≡ false) × (rest_at t o (with_numbers pairs) body ≡ Err fault)

-- the first fault of bytes that are no HFile: the trailer, the parts that are loaded on open, the file info, and then
-- the blocks in their order, the index and the count
abbrev pub IsFirstFault : List ℕ → HFileError → Type 0
IsFirstFault bytes fault =
    IsTrailerFault bytes fault
    ⊎ ((t : Trailer) × TrailerTells version_two bytes (Ok t) × (
    (opened_at t (take (trailer_at bytes) bytes) ≡ Err fault)
    ⊎ ((o : Opened) × (opened_at t (take (trailer_at bytes) bytes) ≡ Ok o) × (IsInfoFault (content o.info) t.info_at fault ⊎ IsRestFault t o (take (trailer_at bytes) bytes) fault))))

-- what bytes are answered with
abbrev pub IsAnswer : List ℕ → Result (List Cell) HFileError → Type 0
IsAnswer bytes (Ok cells) = IsHFile bytes cells
IsAnswer bytes (Err errors.NoMemory) = Unit {0}
IsAnswer bytes (Err fault) = IsFirstFault bytes fault

-- ---- laws

-- one byte string has one list of cells
abbrev pub HasOneList : List ℕ → Type 0
HasOneList bytes = (cells others : List Cell) → IsHFile bytes cells → IsHFile bytes others → cells ≡ others

-- no byte string is an HFile and has a first fault
abbrev pub HasNoBoth : List ℕ → HFileError → Type 0
HasNoBoth bytes fault = (cells : List Cell) → IsHFile bytes cells → IsFirstFault bytes fault → ⊥

-- an answer that is right gives the cells of the HFile that the bytes are
abbrev pub IsRight : List ℕ → Result (List Cell) HFileError → Type 0
IsRight bytes answer = IsAnswer bytes answer → (cells : List Cell) → IsHFile bytes cells → GivesCells answer cells

-- the bytes pass each test, and these are the cells in the end
abbrev pub PassesAll : List ℕ → List Cell → Type 0
PassesAll bytes cells =
    (t : Trailer) × TrailerTells version_two bytes (Ok t) × ((o : Opened) × (opened_at t (take (trailer_at bytes) bytes) ≡ Ok o)
    × ((pairs : List (List ℕ × List ℕ)) × IsInfo (content o.info) pairs × (is_encoded pairs ≡ false) × (rest_at t o (with_numbers pairs) (take (trailer_at bytes) bytes) ≡ Ok cells)))

-- bytes that pass each test, and no others, are an HFile
abbrev pub IsFound : List ℕ → List Cell → Type 0
IsFound bytes cells = EachIndex bytes (λ i. slice_index bytes i < 256) → PassesAll bytes cells ↔ IsHFile bytes cells
