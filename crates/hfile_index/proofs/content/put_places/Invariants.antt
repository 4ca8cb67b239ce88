use Rattle.std.proofs.Common.{◌≡◌, ◌≤◌, ◌*◌, ◌++◌, drop}
use Rattle.hfile_index.specs.Written.{places_from}
use Rattle.hfile_index.proofs.content.put_places.Given as goal

-- the places so far, and those that are left, are all; entries are short
abbrev pub invariant-loop-entry : goal.invariant-loop-entry
invariant-loop-entry l = record {
  told : l.out ++ places_from l.place (drop l.entry-index l.entries) ≡ l.initial.out ++ places_from 0 l.entries;
  low : l.place ≤ 65685 * l.entry-index;
}
