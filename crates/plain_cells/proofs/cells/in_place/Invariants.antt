use Rattle.std.proofs.Common.{◌≡◌, ◌++◌, ◌-◌, ◌≤◌, take, drop, length}
use Rattle.cell_sight.specs.Same.{in_place}
use Rattle.plain_cells.proofs.cells.in_place.Given as goal

-- the cells passed stand before the new one
abbrev pub invariant-loop-at : goal.invariant-loop-at
invariant-loop-at l = record {
  within : l.at ≤ length l.all.items;
  passed : in_place l.cell l.all.items ≡ take l.at l.all.items ++ in_place l.cell (drop l.at l.all.items);
}

abbrev pub decreases-loop-at : goal.decreases-loop-at
decreases-loop-at l = length l.all.items - l.at
