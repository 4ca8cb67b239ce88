-- Cells cut into data blocks (HBase Reference Guide, HFile format, data block; HFileWriterImpl). Each cell is stored with its
-- sequence number.
use Rattle.std.specs.Prelude.{ℕ, ◌+◌, Bool, true, nat_le, if◌then◌else◌, List, [], ◌∷◌, ◌++◌, length, map}
use Rattle.std.specs.List.{fold}
use Rattle.hb_cell.specs.declared.cell.Cell.{Cell}
use Rattle.hb_cell.specs.Stored.{key}
use Rattle.hfile_block.specs.CellBlock.{cells_bytes}
use Rattle.hfile_index.specs.declared.entry.IndexEntry.{IndexEntry}

-- the content of a block
abbrev pub content_of : List Cell → List ℕ
content_of cells = cells_bytes true cells

abbrev pub contents : List (List Cell) → List (List ℕ)
contents blocks = map content_of blocks

-- cells cut into blocks: those that are ended, and the one in hand
pub record Cut : Type 0 where
  pub ended : List (List Cell)
  pub held : List Cell

-- the content has 65,536 bytes or more
abbrev pub is_full : List Cell → Bool
is_full cells = nat_le 65536 (length (content_of cells))

abbrev pub cut_behind : List (List Cell) → List Cell → Cut
cut_behind ended held = if is_full held then record { ended = ended ++ held ∷ []; held = [] } else record { ended = ended; held = held }

-- a cell joins the block in hand, which ends where it is full
abbrev pub with_cell : Cut → Cell → Cut
with_cell cut c = cut_behind cut.ended (cut.held ++ c ∷ [])

abbrev pub no_cut : Cut
no_cut = record { ended = []; held = [] }

abbrev pub cut_of : List Cell → Cut
cut_of cells = fold with_cell no_cut cells

-- in the end the block in hand ends, where it has a cell
abbrev pub with_held : List (List Cell) → List Cell → List (List Cell)
with_held ended [] = ended
with_held ended (c ∷ cells) = ended ++ (c ∷ cells) ∷ []

abbrev pub blocks_of : List Cell → List (List Cell)
blocks_of cells = with_held (cut_of cells).ended (cut_of cells).held

-- the key of the first cell
abbrev pub first_key : List Cell → List ℕ
first_key [] = []
first_key (c ∷ cells) = key c

-- the entries of the index for blocks that stand one after another from a place on
abbrev pub listed : ℕ → List (List Cell) → List IndexEntry
listed at [] = []
listed at (cells ∷ blocks) =
    record { offset = at; size = 33 + length (content_of cells); key = first_key cells } ∷ listed (at + (33 + length (content_of cells))) blocks
