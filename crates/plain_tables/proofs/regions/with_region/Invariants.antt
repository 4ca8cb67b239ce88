use Rattle.std.proofs.Common.{◌≡◌, ◌++◌, ◌-◌, ◌≤◌, take, drop, length}
use Rattle.plain_model.specs.TableEvents.{with_region}
use Rattle.plain_tables.proofs.regions.with_region.Given as goal

-- the regions passed stand before the new one
abbrev pub invariant-loop-at : goal.invariant-loop-at
invariant-loop-at l = record {
  within : l.at ≤ length l.all.items;
  passed : with_region l.region l.all.items ≡ take l.at l.all.items ++ with_region l.region (drop l.at l.all.items);
}

abbrev pub decreases-loop-at : goal.decreases-loop-at
decreases-loop-at l = length l.all.items - l.at
