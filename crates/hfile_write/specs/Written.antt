-- The HFile that is written of cells (HBase Reference Guide, HFile format; HFileWriterImpl): data blocks, the nodes of the
-- index, the root and the index of meta blocks, the file info, and the trailer.
use Rattle.std.specs.Prelude.{ℕ, ◌+◌, ℤ, pos, negsuc, List, [], ◌∷◌, ◌++◌, length, sum, map, Option, Some, None}
use Rattle.hb_cell.specs.declared.cell.Cell.{Cell}
use Rattle.hfile_block.specs.declared.magic.Magic.{Magic}
use Rattle.hfile_block.specs.declared.magic.Magic.TheVariants as kinds
use Rattle.hfile_block.specs.Header.{block_bytes}
use Rattle.hfile_index.specs.declared.written.WrittenIndex.{WrittenIndex}
use Rattle.hfile_index.specs.Written.{index_of}
use Rattle.hfile_meta.specs.declared.trailer.Trailer.{Trailer}
use Rattle.hfile_meta.specs.Trailer.{or_else}
use Rattle.hfile_meta.specs.Written.{written_info, written_trailer}
use Rattle.hfile_form.specs.File.{Format, version_two}
use Rattle.hfile_write.specs.Blocks.{contents, blocks_of, listed}
use Rattle.hfile_write.specs.Summary.{pairs_of}

-- ---- blocks of a kind

-- where the previous block of its kind stands, as a header tells it: -1 where there is none
abbrev pub previous_of : Option ℕ → ℤ
previous_of None = negsuc 0
previous_of (Some at) = pos at

-- blocks of a kind, one after another from a place on
abbrev pub chain : Magic → Option ℕ → ℕ → List (List ℕ) → List ℕ
chain magic before at [] = []
chain magic before at (content ∷ more) =
    block_bytes magic content (previous_of before) ++ chain magic (Some at) (at + (33 + length content)) more

-- the place of the last of them
abbrev pub last_place : Option ℕ → ℕ → List (List ℕ) → Option ℕ
last_place before at [] = before
last_place before at (content ∷ more) = last_place (Some at) (at + (33 + length content)) more

-- all blocks of a kind, behind the bytes of a file so far
abbrev pub with_blocks : Magic → List (List ℕ) → List ℕ → List ℕ
with_blocks magic more file = file ++ chain magic None (length file) more

-- how many bytes contents have
abbrev pub total_len : List (List ℕ) → ℕ
total_len more = sum (map length more)

-- ---- the file

-- the nodes of the index below its root, behind the data blocks
abbrev pub front_of : List ℕ → WrittenIndex → List ℕ
front_of datas index = with_blocks kinds.Intermediate index.intermediates (with_blocks kinds.Leaf index.leaves datas)

-- behind them the root of the index, and the index of meta blocks, which is empty
abbrev pub roots_of : List ℕ → WrittenIndex → List ℕ
roots_of datas index = with_blocks kinds.Root (index.root ∷ [] ∷ []) (front_of datas index)

-- behind them the file info
abbrev pub body_of : List ℕ → WrittenIndex → List ℕ → List ℕ
body_of datas index info = with_blocks kinds.Info (info ∷ []) (roots_of datas index)

-- what the trailer tells
abbrev pub trailer_for : List ℕ → WrittenIndex → ℕ → Option ℕ → ℕ → Trailer
trailer_for datas index total last cells = record {
  info_at = length (roots_of datas index);
  load_at = length (front_of datas index);
  index_bytes = total_len index.leaves + total_len index.intermediates + length index.root;
  total_bytes = total;
  data_count = index.count;
  meta_count = 0;
  entries = cells;
  levels = index.levels;
  first = 0;
  last = or_else 0 last;
  compression = 2;
}

-- the trailer of a version. Another version joins as a case
abbrev pub trailer_as : Format → Trailer → List ℕ
trailer_as version_two trailer = written_trailer trailer

-- data blocks of these contents, and what stands behind them
abbrev pub file_of : Format → List (List ℕ) → WrittenIndex → List ℕ → ℕ → List ℕ
file_of format more index info cells =
    let datas = with_blocks kinds.Data more [] in
    body_of datas index info ++ trailer_as format (trailer_for datas index (total_len more) (last_place None 0 more) cells)

-- the file of these cells
unfoldable pub written_as : Format → List Cell → List ℕ
written_as format cells =
    file_of format (contents (blocks_of cells)) (index_of (listed 0 (blocks_of cells))) (written_info (pairs_of cells)) (length cells)

abbrev pub written : List Cell → List ℕ
written cells = written_as version_two cells
