use Rattle.std.proofs.Common.{◌≡◌, ◌++◌, map}
use Rattle.std.specs.Vec.Iter.{into_iter_items, into_iter_len}
use Rattle.manifest_messages.specs.Parts.{with_family}
use Rattle.manifest_messages.proofs.region.add_entries.Given as goal

abbrev pub invariant-loop-name : goal.invariant-loop-name
invariant-loop-name l = l.entries.items ++ map (with_family l.family) (into_iter_items l.rest) ≡ l.fn.entries.items ++ map (with_family l.family) l.fn.files

abbrev pub decreases-loop-name : goal.decreases-loop-name
decreases-loop-name l = into_iter_len l.rest
