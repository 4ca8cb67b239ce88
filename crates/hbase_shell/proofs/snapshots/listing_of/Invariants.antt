use Rattle.std.proofs.Common.{◌≡◌, map}
use Rattle.std.specs.List.{flat_map}
use Rattle.std.specs.Map.Iter.{deref}
use Rattle.hbase_shell.specs.Script.{line}
use Rattle.hbase_shell.proofs.snapshots.listing_of.Given as goal

-- a line stands for each name so far
abbrev pub invariant-loop-name : goal.invariant-loop-name
invariant-loop-name l = l.text ≡ flat_map line (map deref l.yielded)
