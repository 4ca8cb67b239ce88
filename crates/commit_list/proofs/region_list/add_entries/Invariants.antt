use Rattle.std.proofs.Common.{◌≡◌, ◌++◌, take}
use Rattle.std.specs.List.{flat_map}
use Rattle.commit_list.specs.ListEntry.{entry_text}
use Rattle.commit_list.proofs.region_list.add_entries.Given as goal

-- the lines of the entries before the index stand behind what stood there
abbrev pub invariant-loop-entry : goal.invariant-loop-entry
invariant-loop-entry l = l.text ≡ l.initial.text ++ flat_map entry_text (take l.entry-index l.entries)
