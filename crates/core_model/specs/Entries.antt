-- Entries of a list: the base that each reads, where its own file stands, and which cells it has.
use Rattle.std.specs.Prelude.{◌≡◌, ℕ, ◌+◌, ◌-◌, ◌*◌, Bool, true, false, not, cond, ◌==◌, ◌&&◌, List, [], ◌∷◌, map, take, drop, length, Option, Some, None, unwrap_or}
use Rattle.std.specs.List.{filter, flat_map, list_any}
use Rattle.hb_layout.specs.declared.base.Base.{Base}
use Rattle.hb_cell.specs.declared.cell.Cell.{Cell}
use Rattle.hb_layout.specs.Lawful.{HasNames}
use Rattle.hb_names.specs.Encoded.{IsEncoded}
use Rattle.hb_names.specs.TableName.{IsTableName}
use Rattle.hb_file_names.specs.FileName.{IsFileName}
use Rattle.hb_file_names.specs.LinkParts.{link_text}
use Rattle.hb_file_names.specs.RefName.{ref_text}
use Rattle.commit_list.specs.declared.list_entry.EntryKind.{EntryKind}
use Rattle.commit_list.specs.declared.list_entry.EntryKind.TheVariants as kinds
use Rattle.commit_list.specs.declared.list_entry.ListEntry.{ListEntry}
use Rattle.commit_list.specs.declared.region_list.RegionList.{RegionList}
use Rattle.plain_model.specs.declared.region_key.RegionKey.{RegionKey}
use Rattle.core_model.specs.declared.entry.Entry.{Entry}
use Rattle.core_model.specs.declared.entry.Entry.TheVariants.{Own, Link, Half}
use Rattle.core_model.specs.declared.region_files.RegionFiles.{RegionFiles}
use Rattle.hb_cell.specs.Order.{same_bytes, is_below}
use Rattle.core_model.specs.Keys.{same_bool, same_base, home}

-- the base that an entry reads
abbrev pub base_of : Entry → Base
base_of (Own b) = b
base_of (Link b) = b
base_of (Half b linked parent row top) = b

-- the name of a link to a base
abbrev pub link_name : Base → List ℕ
link_name b = link_text b.table b.region b.name

-- what a half is named after: its base's file, or the link to it
abbrev pub halved_name : Bool → Base → List ℕ
halved_name false b = b.name
halved_name true b = link_name b

-- the name of an entry's own file
abbrev pub entry_name : Entry → List ℕ
entry_name (Own b) = b.name
entry_name (Link b) = link_name b
entry_name (Half b linked parent row top) = ref_text (halved_name linked b) parent

-- where that file stands in a region
abbrev pub file_of : RegionKey → Entry → Base
file_of r e = record { table = r.table; region = r.region; family = (base_of e).family; name = entry_name e }

abbrev pub is_own : Entry → Bool
is_own (Own b) = true
is_own (Link b) = false
is_own (Half b linked parent row top) = false

abbrev pub is_half : Entry → Bool
is_half (Own b) = false
is_half (Link b) = false
is_half (Half b linked parent row top) = true

abbrev pub same_entry : Entry → Entry → Bool
same_entry (Own b) (Own c) = same_base b c
same_entry (Link b) (Link c) = same_base b c
same_entry (Half b l p r t) (Half c m q s u) = same_base b c && (same_bool l m && (same_bytes p q && (same_bytes r s && same_bool t u)))
same_entry _ _ = false

abbrev pub is_in : List Entry → Entry → Bool
is_in es e = list_any (same_entry e) es

-- whether one of the entries reads a base
abbrev pub reads_base : List Entry → Base → Bool
reads_base es b = list_any (λ e. same_base (base_of e) b) es

-- names in their grammars
pub record IsKey (r : RegionKey) : Type 0 where
  pub table : IsTableName r.table
  pub region : IsEncoded r.region

pub record IsBase (b : Base) : Type 0 where
  pub names : HasNames b
  pub file : IsFileName b.name

-- what an entry of a region says of its base: an own file is the region's; a half of a file is one of the region that was
-- split, whose table is the region's; links, and halves of them, are of any region's files
abbrev pub IsEntryIn : RegionKey → Entry → Type 0
IsEntryIn r (Own b) = IsBase b × (home b ≡ r)
IsEntryIn r (Link b) = IsBase b
IsEntryIn r (Half b true parent row top) = IsBase b × IsEncoded parent
IsEntryIn r (Half b false parent row top) = IsBase b × (home b ≡ record { table = r.table; region = parent })

-- whether a base is an own file among the entries
abbrev pub is_own_of : Base → Entry → Bool
is_own_of b (Own c) = same_base c b
is_own_of b (Link c) = false
is_own_of b (Half c linked parent row top) = false

abbrev pub has_own : List Entry → Base → Bool
has_own es b = list_any (is_own_of b) es

-- an entry as the line of a store list names it
abbrev pub kind_of : Entry → EntryKind
kind_of (Own b) = kinds.Own
kind_of (Link b) = kinds.Link
kind_of (Half b linked parent row top) = kinds.Half

abbrev pub list_entry : Entry → ListEntry
list_entry e = record { kind = kind_of e; family = (base_of e).family; name = entry_name e }

abbrev pub region_list : RegionFiles → RegionList
region_list l = record { number = l.number; seq = l.seq; entries = map list_entry l.entries }

-- a region without a list
abbrev pub no_list : RegionFiles
no_list = record { number = 0; seq = 0; entries = [] }

-- the rows that an entry serves
abbrev pub in_side : List ℕ → Bool → Cell → Bool
in_side row true c = not (is_below c.row row)
in_side row false c = is_below c.row row

-- the row and the side of a half
abbrev pub side_of : Entry → Option (List ℕ × Bool)
side_of (Own b) = None
side_of (Link b) = None
side_of (Half b linked parent row top) = Some (row, top)

abbrev pub serves : Entry → Cell → Bool
serves (Own b) c = true
serves (Link b) c = true
serves (Half b linked parent row top) c = in_side row top c

-- the digits that a file was written with, and the number behind _SeqId_, if it has one
abbrev pub stem : List ℕ → List ℕ
stem name = take 32 name

abbrev pub digits_value : ℕ → List ℕ → ℕ
digits_value n [] = n
digits_value n (d ∷ ds) = cond (d == 95) n (digits_value (10 * n + (d - 48)) ds)

abbrev pub seq_of : List ℕ → Option ℕ
seq_of name = cond (length name == 32) None (Some (digits_value 0 (drop 39 name)))

-- cells as a file of this name has them: with its number, where it has one
abbrev pub with_seq : Option ℕ → Cell → Cell
with_seq None c = c
with_seq (Some n) c = record c { seq = n }

-- the cells of each base, where it is known
abbrev pub Made : Type 0
Made = Base → Option (List Cell)

-- the cells of an entry: those of its base's file, with the file's number, on the entry's side
abbrev pub cells_of : Made → Entry → List Cell
cells_of made e = filter (serves e) (map (with_seq (seq_of (base_of e).name)) (unwrap_or (made (base_of e)) []))

abbrev pub cells_in : Made → List Entry → List Cell
cells_in made es = flat_map (cells_of made) es
