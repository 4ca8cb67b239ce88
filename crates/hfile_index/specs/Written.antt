-- The index that is written (HBase Reference Guide, HFile format, block index; HFileBlockIndex). Its nodes stand behind the
-- blocks that it lists: leaf nodes, then intermediate nodes, until one node, the root, can hold the entries.
use Rattle.std.specs.Prelude.{ℕ, zero, suc, ◌+◌, ◌-◌, ◌/◌, ◌%◌, ◌^◌, pos, nat_le, if◌then◌else◌, List, [], ◌∷◌, ◌++◌, length, map, slice_get, Option, Some, None}
use Rattle.std.specs.List.{flat_map}
use Rattle.std.specs.Simd.{first_chunks}
use Rattle.hb_wire.specs.Fixed.{be_bytes}
use Rattle.hb_wire.specs.Vlong.{vlong}
use Rattle.hfile_index.specs.declared.entry.IndexEntry.{IndexEntry}
use Rattle.hfile_index.specs.declared.written.WrittenIndex.{WrittenIndex}

-- ---- the content of a node

-- an entry of a root: the place, the size, and the key behind its length
abbrev pub root_entry_bytes : IndexEntry → List ℕ
root_entry_bytes e = be_bytes 8 e.offset ++ (be_bytes 4 e.size ++ (vlong (pos (length e.key)) ++ e.key))

abbrev pub root_bytes : List IndexEntry → List ℕ
root_bytes es = flat_map root_entry_bytes es

-- an entry of another node: the place, the size, the key
abbrev pub node_entry_bytes : IndexEntry → List ℕ
node_entry_bytes e = be_bytes 8 e.offset ++ (be_bytes 4 e.size ++ e.key)

-- where each entry begins, and where the last one ends, counted from the first one
abbrev pub places_from : ℕ → List IndexEntry → List ℕ
places_from at [] = be_bytes 4 at
places_from at (e ∷ es) = be_bytes 4 at ++ places_from (at + (12 + length e.key)) es

-- the count, these places, and the entries
unfoldable pub node_bytes : List IndexEntry → List ℕ
node_bytes es = be_bytes 4 (length es) ++ (places_from 0 es ++ flat_map node_entry_bytes es)

-- ---- the levels

-- entries cut into nodes of 128, of which the last may have fewer
abbrev pub node_count : ℕ → ℕ
node_count n = (n + 127) / 128

abbrev pub nodes_of : List IndexEntry → List (List IndexEntry)
nodes_of es = first_chunks 128 (node_count (length es)) es

-- the size of a node's block, with its header
abbrev pub node_size : List IndexEntry → ℕ
node_size es = 33 + length (node_bytes es)

-- the place behind so many bytes: places have 64 bits
abbrev pub behind : ℕ → ℕ → ℕ
behind at size = (at + size) % 2 ^ 64

-- the key of the first entry
abbrev pub first_key : List IndexEntry → List ℕ
first_key [] = []
first_key (e ∷ es) = e.key

-- the entries that name nodes which stand one after another from a place on, each by the key of its first entry
abbrev pub named : ℕ → List (List IndexEntry) → List IndexEntry
named at [] = []
named at (es ∷ nodes) = record { offset = at; size = node_size es; key = first_key es } ∷ named (behind at (node_size es)) nodes

-- the place behind these nodes
abbrev pub end_of : ℕ → List (List IndexEntry) → ℕ
end_of at [] = at
end_of at (es ∷ nodes) = end_of (behind at (node_size es)) nodes

-- what stands above entries: the nodes below the root, the root's entries, and how many levels stand below the root
pub record Above : Type 0 where
  pub nodes : List (List ℕ)
  pub root : List IndexEntry
  pub below : ℕ

abbrev pub root_alone : List IndexEntry → Above
root_alone es = record { nodes = []; root = es; below = 0 }

abbrev pub with_level : List (List IndexEntry) → Above → Above
with_level nodes above = record { nodes = map node_bytes nodes ++ above.nodes; root = above.root; below = above.below + 1 }

-- the nodes above entries, which stand from a place on: a root holds at most 128, and more of them are cut into the nodes of
-- a level, whose names stand in the level above. There are fewer names than entries, so that as many levels suffice
abbrev pub above : ℕ → ℕ → List IndexEntry → Above
above zero at es = root_alone es
above (suc more) at es =
    if nat_le (length es) 128 then root_alone es
    else with_level (nodes_of es) (above more (end_of at (nodes_of es)) (named at (nodes_of es)))

-- ---- the index

-- the middle key: the place and the size of the leaf node with the entry of the middle block, and the entry's number there
abbrev pub middle : ℕ → ℕ
middle n = (n - 1) / 2

abbrev pub middle_in : Option IndexEntry → ℕ → List ℕ
middle_in None i = []
middle_in (Some leaf) i = be_bytes 8 leaf.offset ++ (be_bytes 4 leaf.size ++ be_bytes 4 i)

unfoldable pub middle_bytes : List IndexEntry → ℕ → List ℕ
middle_bytes leaves n = middle_in (slice_get leaves (middle n / 128)) (middle n % 128)

-- the place behind the last block that entries list
abbrev pub end_from : ℕ → List IndexEntry → ℕ
end_from at [] = at
end_from at (e ∷ es) = end_from (behind e.offset e.size) es

abbrev pub listed_end : List IndexEntry → ℕ
listed_end es = end_from 0 es

-- an index of one level is its root
abbrev pub flat_index : List IndexEntry → WrittenIndex
flat_index es = record { leaves = []; intermediates = []; root = root_bytes es; count = length es; levels = 1 }

-- an index of more levels: the leaf nodes, what stands above their names, and the middle key behind the root. Its levels are
-- those below the root, and those of the leaf nodes and of the root
abbrev pub index_above : List (List IndexEntry) → List IndexEntry → ℕ → Above → WrittenIndex
index_above leaves names n up = record {
  leaves = map node_bytes leaves;
  intermediates = up.nodes;
  root = root_bytes up.root ++ middle_bytes names n;
  count = length up.root;
  levels = 2 + up.below;
}

abbrev pub deep_index : ℕ → List IndexEntry → WrittenIndex
deep_index at es =
    let names = named at (nodes_of es) in
    index_above (nodes_of es) names (length es) (above (length names) (end_of at (nodes_of es)) names)

-- the index that lists blocks, whose nodes stand behind the last of them
unfoldable pub index_of : List IndexEntry → WrittenIndex
index_of es = if nat_le (length es) 128 then flat_index es else deep_index (listed_end es) es
