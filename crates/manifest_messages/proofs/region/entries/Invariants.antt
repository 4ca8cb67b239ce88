use Rattle.std.proofs.Common.{◌≡◌, ◌++◌}
use Rattle.std.specs.Vec.Iter.{into_iter_items, into_iter_len}
use Rattle.snapshot_records.specs.Files.{entries}
use Rattle.manifest_messages.proofs.region.entries.Given as goal

abbrev pub invariant-loop-family : goal.invariant-loop-family
invariant-loop-family l = l.all.items ++ entries (into_iter_items l.rest) ≡ entries l.fn.families

abbrev pub decreases-loop-family : goal.decreases-loop-family
decreases-loop-family l = into_iter_len l.rest
