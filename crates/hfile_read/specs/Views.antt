-- What the parts of an HFile that were read are, with their bytes in place of where these lie.
use Rattle.std.specs.Prelude.{ℕ, ◌+◌, List, length, Option, option_map}
use Rattle.std.specs.Ordering.{nat_cmp}
use Rattle.std.specs.BTreeMap as tree
use Rattle.hb_cell.specs.declared.cell.Cell.{Cell}
use Rattle.hfile_index.specs.IndexKey.{KeyParts}
use Rattle.hfile_index.specs.declared.key.IndexKey.{IndexKey}
use Rattle.hfile_form.specs.Blocks.{Block}
use Rattle.hfile_form.specs.Front.{Front, Node}
use Rattle.hfile_form.specs.File.{Opened}
use Rattle.hfile_form.specs.Index.{Left}
use Rattle.hfile_read.specs.declared.block.ReadBlock.{ReadBlock}
use Rattle.hfile_read.specs.declared.front.ReadNode.{ReadNode}
use Rattle.hfile_read.specs.declared.front.ReadFront.{ReadFront}
use Rattle.hfile_read.specs.declared.left.ReadLeft.{ReadLeft}
use Rattle.hfile_read.specs.declared.opened.ReadOpened.{ReadOpened}

abbrev pub block_view : ReadBlock → Block
block_view b = record { header = b.header; body = b.body.now }

abbrev pub key_view : IndexKey → KeyParts
key_view k = record { row = k.row.now; family = k.family.now; qualifier = k.qualifier.now; ts = k.ts; code = k.code }

abbrev pub node_view : ReadNode → Node
node_view n = record { size = n.size; magic = n.magic; content = n.content.now }

-- nodes by their places
abbrev pub nodes_view : tree.BTreeMap ℕ ReadNode → ℕ → Option Node
nodes_view m = λ q. option_map node_view (tree.get nat_cmp m q)

abbrev pub front_view : ReadFront → Front
front_view f = record { cells = f.cells.items; datas = f.datas.items; nodes = nodes_view f.nodes }

abbrev pub left_view : ReadLeft → Left
left_view l = record { nodes = nodes_view l.nodes; datas = l.datas.now }

abbrev pub opened_view : ReadOpened → Opened
opened_view o = record { root = block_view o.root; meta = block_view o.meta; info = block_view o.info }

-- how many nodes and data blocks are left
abbrev pub count_left : ReadLeft → ℕ
count_left l = tree.btree_map_len l.nodes + length l.datas.now

-- what blocks hold: these cells, and what is left
abbrev pub front_of : List Cell → Left → Front
front_of cells left = record { cells = cells; datas = left.datas; nodes = left.nodes }
