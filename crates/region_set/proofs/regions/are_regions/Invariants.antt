use Rattle.std.proofs.Common.{None, take}
use Rattle.hb_grammar.specs.Rows.{RowsFrom}
use Rattle.region_set.specs.RegionLine.{IsRegionBehind}
use Rattle.region_set.proofs.regions.are_regions.Given as goal

abbrev pub invariant-loop-i : goal.invariant-loop-i
invariant-loop-i l = RowsFrom (IsRegionBehind l.table) None (take l.i l.regions)
