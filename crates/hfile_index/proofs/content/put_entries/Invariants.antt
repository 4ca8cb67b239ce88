use Rattle.std.proofs.Common.{◌≡◌, ◌++◌, take}
use Rattle.std.specs.List.{flat_map}
use Rattle.hfile_index.specs.Written.{node_entry_bytes}
use Rattle.hfile_index.proofs.content.put_entries.Given as goal

-- the entries before the index stand behind what stood there
abbrev pub invariant-loop-entry : goal.invariant-loop-entry
invariant-loop-entry l = l.out ≡ l.initial.out ++ flat_map node_entry_bytes (take l.entry-index l.entries)
