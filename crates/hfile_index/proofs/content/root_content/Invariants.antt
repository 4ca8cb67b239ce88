use Rattle.std.proofs.Common.{◌≡◌, take}
use Rattle.std.specs.List.{flat_map}
use Rattle.hfile_index.specs.Written.{root_entry_bytes}
use Rattle.hfile_index.proofs.content.root_content.Given as goal

-- the entries before the index are written
abbrev pub invariant-loop-entry : goal.invariant-loop-entry
invariant-loop-entry l = l.content ≡ flat_map root_entry_bytes (take l.entry-index l.entries)
