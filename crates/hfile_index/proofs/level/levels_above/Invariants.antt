use Rattle.std.proofs.Common.{◌≡◌, ◌≤◌, ◌+◌, length}
use Rattle.hfile_index.specs.Short.{HaveShortKeys}
use Rattle.hfile_index.specs.Written.{above}
use Rattle.hfile_index.proofs.Levels.{behind_levels}
use Rattle.hfile_index.proofs.level.levels_above.Given as goal

-- the levels so far, and those that stand above the entries that are left, are all
abbrev pub invariant-levels : goal.invariant-levels
invariant-levels l = record {
  told : behind_levels l.nodes.items l.below (above (length l.root.items) l.at l.root.items) ≡ above (length l.fn.names.items) l.fn.at l.fn.names.items;
  short : HaveShortKeys l.root.items;
  few : l.below + length l.root.items ≤ length l.fn.names.items;
}

abbrev pub decreases-levels : goal.decreases-levels
decreases-levels l = length l.root.items
