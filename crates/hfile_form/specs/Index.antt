-- The index of an HFile, followed from its root (HBase Reference Guide, HFile format, block index; HFileBlockIndex).
use Rattle.std.specs.Prelude.{◌≡◌, ℕ, zero, suc, ◌-◌, ◌==◌, ◌&&◌, Bool, true, false, if◌then◌else◌, List, [], ◌∷◌, slice_get, Option, Some, None, Result, Ok, Err}
use Rattle.std.specs.Ordering.{is_le}
use Rattle.hb_cell.specs.declared.cell.Cell.{Cell}
use Rattle.hfile_block.specs.declared.magic.Magic.{Magic}
use Rattle.hfile_block.specs.declared.magic.Magic.TheVariants as kinds
use Rattle.hfile_index.specs.declared.entry.IndexEntry.{IndexEntry}
use Rattle.hfile_index.specs.IndexKey.{KeyParts, key_at, parts_of_cell, parts_cmp}
use Rattle.hfile_index.specs.Entries.{node_at}
use Rattle.hfile_form.specs.declared.front.DataBlock.{DataBlock}
use Rattle.hfile_form.specs.Front.{Node}

-- the nodes that no entry named yet, and the data blocks that none listed
pub record Left : Type 0 where
  pub nodes : ℕ → Option Node
  pub datas : List DataBlock

-- a step answers what is left, or the place of the node that is wrong
infixl 10 ◌>>=◌
abbrev pub ◌>>=◌ : {A B : Type 0} → Result A ℕ → (A → Result B ℕ) → Result B ℕ
(Ok x) >>= f = f x
(Err at) >>= f = Err at

-- a key is not below any cell before a data block, of which so many stand there, and not above the block's first one
abbrev pub not_below : KeyParts → Option Cell → Bool
not_below key None = true
not_below key (Some c) = is_le (parts_cmp (parts_of_cell c) key)

abbrev pub not_above : KeyParts → Option Cell → Bool
not_above key None = false
not_above key (Some c) = is_le (parts_cmp key (parts_of_cell c))

-- the last of so many cells at the front
abbrev pub cell_before : List Cell → ℕ → Option Cell
cell_before cells n = if n == 0 then None else slice_get cells (n - 1)

abbrev pub lies_at : List Cell → Option KeyParts → ℕ → Bool
lies_at cells None n = false
lies_at cells (Some key) n = not_below key (cell_before cells n) && not_above key (slice_get cells n)

unfoldable pub fits_at : List Cell → IndexEntry → DataBlock → Bool
fits_at cells e d = lies_at cells (key_at e.key) d.before

-- an entry of the lowest level names the next data block, with its size
abbrev pub lists_next : List Cell → ℕ → IndexEntry → (ℕ → Option Node) → List DataBlock → Result Left ℕ
lists_next cells owner e nodes [] = Err owner
lists_next cells owner e nodes (d ∷ datas) =
    if (e.offset == d.at) && (e.size == d.size) && fits_at cells e d then Ok (record { nodes = nodes; datas = datas }) else Err owner

-- the kind of the nodes that have so many levels below them
abbrev pub kind_above : ℕ → Magic → Bool
kind_above zero kinds.Leaf = true
kind_above zero _ = false
kind_above (suc more) kinds.Intermediate = true
kind_above (suc more) _ = false

-- an entry of another level names a node of the level below, with its size, that no entry named before
abbrev pub names_node : List Cell → ℕ → ℕ → IndexEntry → Option Node → List DataBlock → Result Node ℕ
names_node cells more owner e None datas = Err owner
names_node cells more owner e (Some node) [] = Err owner
names_node cells more owner e (Some node) (d ∷ datas) =
    if (e.size == node.size) && kind_above more node.magic && fits_at cells e d then Ok node else Err owner

abbrev pub without : ℕ → Left → Left
without at left = record { nodes = λ q. if q == at then None else left.nodes q; datas = left.datas }

abbrev pub or_wrong : {A : Type 0} → ℕ → Option A → Result A ℕ
or_wrong at None = Err at
or_wrong at (Some x) = Ok x

-- entries one after another
abbrev pub each : (IndexEntry → Left → Result Left ℕ) → List IndexEntry → Left → Result Left ℕ
each follow [] left = Ok left
each follow (e ∷ es) left = follow e left >>= each follow es

-- what an entry leaves that stands in the node at a place, with so many levels below it
abbrev pub followed : List Cell → ℕ → ℕ → IndexEntry → Left → Result Left ℕ
followed cells zero owner e left = lists_next cells owner e left.nodes left.datas
followed cells (suc more) owner e left = do
  node ← names_node cells more owner e (left.nodes e.offset) left.datas
  es ← or_wrong e.offset (node_at node.content)
  each (followed cells more e.offset) es (without e.offset left)

-- the index lists each data block: the entries of the root at a place, with so many levels, leave none
abbrev pub lists_all : ℕ → List DataBlock → Result (Unit {0}) ℕ
lists_all at [] = Ok tt
lists_all at (d ∷ datas) = Err at

abbrev pub index_from : List Cell → ℕ → ℕ → List IndexEntry → Left → Result (Unit {0}) ℕ
index_from cells zero at es left = Err at
index_from cells (suc more) at es left = each (followed cells more at) es left >>= λ rest. lists_all at rest.datas
