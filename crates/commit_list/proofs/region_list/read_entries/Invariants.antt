use Rattle.std.proofs.Common.{length, ◌-◌}
use Rattle.commit_list.specs.ListEntry.{entry_text}
use Rattle.commit_line.specs.Rows.{AreRows}
use Rattle.commit_list.proofs.EntriesLemmas.{IsEntryAfter}
use Rattle.commit_list.proofs.region_list.read_entries.Given as goal

-- the entries so far stand between the first place and this one
abbrev pub invariant-loop-place : goal.invariant-loop-place
invariant-loop-place l = AreRows IsEntryAfter entry_text l.bytes l.at l.entries.items l.place

abbrev pub decreases-loop-place : goal.decreases-loop-place
decreases-loop-place l = length l.bytes - l.place
