-- Data blocks that are ended one by one.
use Rattle.std.specs.Prelude.{◌≡◌, ℕ, ◌≤◌, ◌<◌, ◌+◌, Bool, true, false, nat_le, List, [], ◌∷◌, ◌++◌, length, take, drop, Some, None}
use Rattle.std.specs.List.{fold, AllByRecursion}
use Rattle.hb_wire.specs.Fixed.{be_number}
use Rattle.hb_cell.specs.declared.cell.Cell.{Cell}
use Rattle.hb_cell.specs.Limits.{IsCell}
use Rattle.hfile_block.specs.declared.magic.Magic.TheVariants as kinds
use Rattle.hfile_block.specs.Header.{block_bytes}
use Rattle.hfile_write.specs.declared.ended.EndedBlocks.{EndedBlocks}
use Rattle.hfile_write.specs.Blocks.{content_of, first_key, cut_of}
use Rattle.hfile_write.specs.Written.{previous_of}

-- one more block of this content, whose first cell has this key
abbrev pub with_block : EndedBlocks → List ℕ → List ℕ → EndedBlocks
with_block e content key = record {
  file = e.file ++ block_bytes kinds.Data content (previous_of e.last_at);
  index = e.index ++ record { offset = length e.file; size = 33 + length content; key = key } ∷ [];
  last_at = Some (length e.file);
  total = e.total + length content;
}

-- the key of the first cell in a block's content, behind its length and that of the value
abbrev pub key_in : List ℕ → List ℕ
key_in content = take (be_number 4 content) (drop 8 content)

pub record HasFirstKey (content : List ℕ) : Type 0 where
  pub lengths : 8 ≤ length content
  pub whole : 8 + be_number 4 content ≤ length content
  pub short : be_number 4 content ≤ 65673

abbrev pub with_cells : EndedBlocks → List Cell → EndedBlocks
with_cells e cells = with_block e (content_of cells) (first_key cells)

abbrev pub none_ended : EndedBlocks
none_ended = record { file = []; index = []; last_at = None; total = 0 }

abbrev pub ended_of : List (List Cell) → EndedBlocks
ended_of blocks = fold with_cells none_ended blocks

-- a block in hand ends where it is full, and begins anew
abbrev pub ends_as : Bool → EndedBlocks → List ℕ → EndedBlocks × List ℕ
ends_as true e block = (with_block e block (key_in block), [])
ends_as false e block = (e, block)

abbrev pub IsEnded : EndedBlocks → List ℕ → EndedBlocks → List ℕ → Type 0
IsEnded e block ended rest = (ended, rest) ≡ ends_as (nat_le 65536 (length block)) e block

-- the data blocks of some cells: those that are ended, and the content of the one in hand
pub record IsWritten (cells : List Cell) (e : EndedBlocks) (block : List ℕ) : Type 0 where
  pub ended_are : e ≡ ended_of (cut_of cells).ended
  pub block_is : block ≡ content_of (cut_of cells).held
  pub fit : AllByRecursion IsCell (cut_of cells).held
  pub low : length block < 65536
