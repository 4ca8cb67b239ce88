-- Keys that an index can be written of, and nodes that a block can hold.
use Rattle.std.specs.Prelude.{ℕ, ◌<◌, ◌≤◌, ◌^◌, List, length}
use Rattle.std.specs.List.{AllByRecursion}
use Rattle.hfile_index.specs.declared.entry.IndexEntry.{IndexEntry}
use Rattle.hfile_index.specs.declared.written.WrittenIndex.{WrittenIndex}

-- each key has at most as many bytes as that of a cell
abbrev pub HasShortKey : IndexEntry → Type 0
HasShortKey e = length e.key ≤ 65673

abbrev pub HaveShortKeys : List IndexEntry → Type 0
HaveShortKeys es = AllByRecursion HasShortKey es

-- a content of fewer than 2 ^ 24 bytes
abbrev pub IsSmall : List ℕ → Type 0
IsSmall content = length content < 2 ^ 24

-- the content of each node of an index is small
pub record HasSmallNodes (index : WrittenIndex) : Type 0 where
  pub leaves : AllByRecursion IsSmall index.leaves
  pub intermediates : AllByRecursion IsSmall index.intermediates
  pub root : IsSmall index.root
