use Rattle.std.specs.Prelude.{◌≡◌, ℕ, List, ◌++◌, codes, Result, Ok, Err}
use Rattle.std.specs.List.{flat_map, AllByRecursion}
use Rattle.hb_grammar.specs.TextOf.{IsTextOf}
use Rattle.commit_line.specs.declared.error.ListError.{ListError}
use Rattle.commit_line.specs.declared.error.ListError.TheVariants.{BadList, NoMemory}
use Rattle.commit_list.specs.declared.list_entry.ListEntry.{ListEntry}
use Rattle.commit_list.specs.declared.region_list.RegionList.{RegionList}
use Rattle.commit_line.specs.Line.{ended, IsNumber, number_line}
use Rattle.commit_line.specs.Numbered.{IsListNumber}
use Rattle.commit_line.specs.declared.line.TheConstants.{MAX_NUMBER}
use Rattle.commit_list.specs.ListEntry.{IsEntry, entry_text}

-- a store list that a file can have: its number is 1 to 2 ^ 63 - 1, its sequence number is at most that
pub record IsRegionList (list : RegionList) : Type 0 where
  pub number : IsListNumber list.number
  pub seq : IsNumber 0 MAX_NUMBER list.seq
  pub entries : AllByRecursion IsEntry list.entries

-- the lines of entries, and the line that ends them
abbrev pub entries_text : List ListEntry → List ℕ
entries_text entries = flat_map entry_text entries ++ ended (codes "end")

-- the lines of a store list
abbrev pub region_list_text : RegionList → List ℕ
region_list_text list = number_line (codes "list") list.number ++ (number_line (codes "seq") list.seq ++ entries_text list.entries)

-- the bytes of a store list's file
abbrev pub IsListFile : List ℕ → Type 0
IsListFile = IsTextOf IsRegionList region_list_text

-- this list and no other, unless memory ran out
abbrev pub GivesList : Result RegionList ListError → RegionList → Type 0
GivesList (Ok found) list = found ≡ list
GivesList (Err NoMemory) list = Unit {0}
GivesList (Err (BadList _)) list = ⊥
