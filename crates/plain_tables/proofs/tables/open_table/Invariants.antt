use Rattle.std.proofs.Common.{◌≡◌, map, take, false}
use Rattle.plain_tables.proofs.tables.open_table.Given as goal

abbrev pub invariant-loop-region : goal.invariant-loop-region
invariant-loop-region l = l.open.items ≡ map (λ r. (r, false)) (take l.region-index l.regions)
