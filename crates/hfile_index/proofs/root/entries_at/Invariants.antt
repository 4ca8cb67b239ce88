use Rattle.std.proofs.Common.{◌≡◌}
use Rattle.hfile_index.specs.Entries.{root_entries_at}
use Rattle.hfile_index.proofs.Nodes.{with_front}
use Rattle.hfile_index.proofs.root.entries_at.Given as goal

-- the entries so far, and those that are left, are all
abbrev pub invariant-loop-left : goal.invariant-loop-left
invariant-loop-left l = with_front l.entries.items (root_entries_at l.left l.rest) ≡ root_entries_at l.count l.content

abbrev pub decreases-loop-left : goal.decreases-loop-left
decreases-loop-left l = l.left
