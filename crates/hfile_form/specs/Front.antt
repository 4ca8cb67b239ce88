-- What the blocks before the parts that are loaded on open hold: cells, and the nodes of the index (HBase Reference
-- Guide, HFile format).
use Rattle.std.specs.Prelude.{◌≡◌, ℕ, ◌+◌, ◌==◌, Bool, if◌then◌else◌, List, [], ◌∷◌, ◌++◌, length, map, Option, Some, None, Result, Ok, Err}
use Rattle.std.specs.List.{flat_map, AllByRecursion}
use Rattle.hb_cell.specs.declared.cell.Cell.{Cell}
use Rattle.hfile_block.specs.declared.fault.HFileError.{HFileError}
use Rattle.hfile_block.specs.declared.magic.Magic.{Magic}
use Rattle.hfile_block.specs.declared.magic.Magic.TheVariants as kinds
use Rattle.hfile_form.specs.declared.front.DataBlock.{DataBlock}
use Rattle.hfile_form.specs.Blocks.{Block, content, size_of, ◌>>=◌}
use Rattle.hfile_form.specs.DataCells.{HoldsCells, last_or, data_at}

-- a node of the index: its size, its kind and its content
pub record Node : Type 0 where
  pub size : ℕ
  pub magic : Magic
  pub content : List ℕ

-- what blocks hold: their cells, their data blocks, and the nodes of the index by their places
pub record Front : Type 0 where
  pub cells : List Cell
  pub datas : List DataBlock
  pub nodes : ℕ → Option Node

abbrev pub no_front : Front
no_front = record { cells = []; datas = []; nodes = λ q. None }

-- what a block is for
pub data Role : Type 0 where
  data_role : Role
  node_role : Role
  other_role : Role

abbrev pub role_of : Magic → Role
role_of kinds.Data = data_role
role_of kinds.Leaf = node_role
role_of kinds.Intermediate = node_role
role_of _ = other_role

abbrev pub with_data : ℕ → ℕ → List Cell → Front → Front
with_data at size cells front = record {
  cells = front.cells ++ cells;
  datas = front.datas ++ record { at = at; size = size; before = length front.cells } ∷ [];
  nodes = front.nodes;
}

abbrev pub with_node : ℕ → Node → Front → Front
with_node at node front = record { cells = front.cells; datas = front.datas; nodes = λ q. if q == at then Some node else front.nodes q }

abbrev pub node_of : Block → Node
node_of b = record { size = size_of b; magic = b.header.magic; content = content b }

-- ---- a block and its cells

pub record Part : Type 0 where
  pub block : Block
  pub cells : List Cell

abbrev pub HoldsAs : Role → Bool → Part → Type 0
HoldsAs data_role with_seq p = HoldsCells with_seq (content p.block) p.cells
HoldsAs node_role with_seq p = p.cells ≡ []
HoldsAs other_role with_seq p = p.cells ≡ []

-- the cells of a part are those of its block
abbrev pub Holds : Bool → Part → Type 0
Holds with_seq p = HoldsAs (role_of p.block.header.magic) with_seq p

abbrev pub AreHeld : Bool → List Part → Type 0
AreHeld with_seq parts = AllByRecursion (Holds with_seq) parts

abbrev pub blocks_of : List Part → List Block
blocks_of parts = map (λ p. p.block) parts

abbrev pub cells_of : List Part → List Cell
cells_of parts = flat_map (λ p. p.cells) parts

abbrev pub with_part_as : Role → ℕ → Part → Front → Front
with_part_as data_role at p front = with_data at (size_of p.block) p.cells front
with_part_as node_role at p front = with_node at (node_of p.block) front
with_part_as other_role at p front = front

-- what parts one after another hold, from a place on
abbrev pub joined : ℕ → List Part → Front → Front
joined at [] front = front
joined at (p ∷ parts) front = joined (at + size_of p.block) parts (with_part_as (role_of p.block.header.magic) at p front)

-- ---- reading

-- what one more block makes of what the blocks before it hold, or its first fault
abbrev pub taken_as : Role → Bool → ℕ → Block → Front → Result Front HFileError
taken_as data_role with_seq at b front = data_at with_seq (at + 33) (last_or None front.cells) (content b) >>= λ cells. Ok (with_data at (size_of b) cells front)
taken_as node_role with_seq at b front = Ok (with_node at (node_of b) front)
taken_as other_role with_seq at b front = Ok front

unfoldable pub taken : Bool → ℕ → Block → Front → Result Front HFileError
taken with_seq at b front = taken_as (role_of b.header.magic) with_seq at b front
