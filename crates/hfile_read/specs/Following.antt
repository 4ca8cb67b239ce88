-- The index, as it is followed node by node.
use Rattle.std.specs.Prelude.{ℕ, ◌^◌, nat_lt, if◌then◌else◌, List, [], ◌∷◌, Option, Some, None, Result, Ok, Err}
use Rattle.std.specs.Vec.Iter.{into_iter_items}
use Rattle.hb_cell.specs.declared.cell.Cell.{Cell}
use Rattle.hfile_block.specs.declared.fault.HFileError.{HFileError}
use Rattle.hfile_block.specs.declared.fault.HFileError.TheVariants as errors
use Rattle.hfile_index.specs.declared.entry.IndexEntry.{IndexEntry}
use Rattle.hfile_index.specs.declared.fault.BadIndex.{BadIndex}
use Rattle.hfile_index.specs.declared.fault.BadIndex.TheVariants as indexes
use Rattle.hfile_index.specs.Entries.{root_node_at}
use Rattle.hfile_meta.specs.declared.trailer.Trailer.{Trailer}
use Rattle.hfile_form.specs.Index.{Left, each, followed, or_wrong, ◌>>=◌}
use Rattle.hfile_form.specs.File.{root_of}
use Rattle.hfile_read.specs.declared.tree.NodeEntries.{NodeEntries}

-- what the entries of a node leave that were not followed yet
abbrev pub node_leaves : List Cell → NodeEntries → Left → Result Left ℕ
node_leaves cells node left = each (followed cells node.more node.owner) (into_iter_items node.rest) left

-- the same, where an entry names a node
abbrev pub below : List Cell → Option NodeEntries → Left → Result Left ℕ
below cells None left = Ok left
below cells (Some node) left = node_leaves cells node left

-- what open nodes leave, the last one first
abbrev pub following : List Cell → List NodeEntries → Left → Result Left ℕ
following cells [] left = Ok left
following cells (node ∷ nodes) left = following cells nodes left >>= node_leaves cells node

-- the entries of the root, or its place where it is wrong
abbrev pub root_entries : Trailer → List ℕ → Result (List IndexEntry) ℕ
root_entries t content = if nat_lt t.data_count (2 ^ 32) then or_wrong t.load_at (root_of t.levels (root_node_at t.data_count content)) else Err t.load_at

-- the fault of a file, for what was wrong with its index
abbrev pub index_fault : BadIndex → HFileError
index_fault (indexes.BadIndex at) = errors.BadIndex at
index_fault indexes.NoMemory = errors.NoMemory
