use Rattle.std.proofs.Common.{◌≡◌, ◌+◌, ◌*◌, ◌≤◌, length}
use Rattle.hfile_index.specs.Entries.{node_entries_at}
use Rattle.hfile_index.proofs.Nodes.{behind_front}
use Rattle.hfile_index.proofs.node.entries_at.Given as goal

-- the entries so far, and those that are left, are all
abbrev pub invariant-loop-left : goal.invariant-loop-left
invariant-loop-left l = record {
  told : behind_front l.entries.items (node_entries_at l.left l.places l.rest) ≡ node_entries_at l.count l.table l.bytes;
  room : 4 + 4 * l.left ≤ length l.places;
}

abbrev pub decreases-loop-left : goal.decreases-loop-left
decreases-loop-left l = l.left
