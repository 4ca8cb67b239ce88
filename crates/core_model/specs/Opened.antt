-- The state that an opening leaves: what it found, and the plain state that this has.
use Rattle.std.specs.Prelude.{ℕ, true, false, List, [], map, Option, Some, None, option_map, unwrap_or, is_some}
use Rattle.std.specs.List.{filter_map, find}
use Rattle.std.specs.FinMap.{from_entries}
use Rattle.ns_tree.specs.Tree.{Tree}
use Rattle.region_set.specs.declared.region_set.RegionSet.{RegionSet}
use Rattle.region_set.specs.declared.set_state.SetState.{SetState}
use Rattle.region_set.specs.declared.set_state.SetState.TheVariants as states
use Rattle.plain_model.specs.declared.region_key.RegionKey.{RegionKey}
use Rattle.hb_cell.specs.declared.cell.Cell.{Cell}
use Rattle.hb_cell.specs.Order.{same_bytes}
use Rattle.plain_model.specs.Keys.{same_key}
use Rattle.plain_model.specs.Plain.{Plain}
use Rattle.plain_model.specs.declared.parts.PlainSnapshot.{PlainSnapshot}
use Rattle.plain_model.specs.declared.parts.PlainTable.{PlainTable}
use Rattle.plain_model.specs.declared.parts.RegionCopy.{RegionCopy}
use Rattle.core_model.specs.declared.found.Found.{Found}
use Rattle.core_model.specs.declared.opening.Opening.{Opening}
use Rattle.core_model.specs.declared.region_files.RegionFiles.{RegionFiles}
use Rattle.core_model.specs.declared.snapshot.CopiedRegion.{CopiedRegion}
use Rattle.core_model.specs.declared.snapshot.Snapshot.{Snapshot}
use Rattle.core_model.specs.Disk.{disk_of, live_of, archived_of, at_place, or_else}
use Rattle.core_model.specs.Entries.{Made, cells_in, no_list}
use Rattle.core_model.specs.Site.{Live, Archived, Staged, site_text}
use Rattle.core_model.specs.State.{Parts, no_plan}
use Rattle.core_model.specs.ActorChanges.{no_part}
use Rattle.core_model.specs.FileChanges.{size_in}

-- the cells that were found of the file at a place
abbrev pub found_cells : List (List ℕ × List Cell) → List ℕ → Option (List Cell)
found_cells cells place = option_map (λ (x : List ℕ × List Cell). x.1) (find (λ (x : List ℕ × List Cell). same_bytes x.0 place) cells)

-- those of a base, where it stands
abbrev pub read_base : List (List ℕ × List Cell) → Made
read_base cells b = or_else (found_cells cells (site_text (Live b))) (found_cells cells (site_text (Archived b)))

-- the list that was found of a region
abbrev pub found_list : List (RegionKey × RegionFiles) → RegionKey → RegionFiles
found_list lists r = unwrap_or (option_map (λ (x : RegionKey × RegionFiles). x.1) (find (λ (x : RegionKey × RegionFiles). same_key x.0 r) lists)) no_list

-- the table of a set, which a dropped one has not
abbrev pub table_in : SetState → RegionSet → Option PlainTable
table_in states.Enabled s = Some (record { enabled = true; schema = s.schema; regions = s.regions })
table_in states.Disabled s = Some (record { enabled = false; schema = s.schema; regions = s.regions })
table_in states.Dropped s = None

abbrev pub table_of : RegionSet → Option PlainTable
table_of s = table_in s.state s

abbrev pub named_table : List ℕ × RegionSet → Option (List ℕ × PlainTable)
named_table x = option_map (λ t. (x.0, t)) (table_of x.1)

-- a snapshot with the cells of its entries
abbrev pub copy_of : Made → CopiedRegion → RegionCopy
copy_of made r = record { region = r.info; cells = cells_in made r.entries; number = r.seq }

abbrev pub plain_snapshot : Made → Snapshot → PlainSnapshot
plain_snapshot made s = record { schema = s.schema; regions = map (copy_of made) s.regions }

-- the plain state of what was found
abbrev pub found_plain : Found → Made → Plain
found_plain f made = record {
  tables = from_entries (filter_map named_table f.sets);
  stable = λ r. cells_in made (found_list f.lists r).entries;
  mem = λ r. [];
  frozen = λ r. 0;
  seq = λ r. (found_list f.lists r).seq;
  kept = λ r. (found_list f.lists r).seq;
  snapshots = from_entries (map (λ (x : List ℕ × Snapshot). (x.0, plain_snapshot made x.1)) f.snapshots);
  live = [];
  captures = λ a r. None;
  noted = λ a r. None;
}

-- a tree of empty files, which stands for one that is not told
abbrev pub blank : List (List ℕ) → Tree
blank places = from_entries (map (λ (place : List ℕ). (place, record { bytes = []; moment = 0 })) places)

-- the state of what was found, over the tree that the store tells
abbrev pub opened : Opening → Parts
opened o =
    let tree = unwrap_or o.tree (blank o.found.places) in
    let disk = disk_of tree in
    let made = read_base o.found.cells in
    record {
      told = is_some o.tree;
      disk = disk;
      opened = disk;
      staged = λ folder family name. found_cells o.found.cells (site_text (Staged folder family name));
      epoch = o.epoch;
      ttl = o.ttl;
      files = 0;
      ids = 0;
      begun = 0;
      drawn = [];
      made = made;
      sizes = λ b. size_in (at_place (live_of disk) (archived_of disk) b);
      written = λ n. None;
      lists = found_list o.found.lists;
      compacted = λ r. [];
      sets = from_entries o.found.sets;
      snapshots = from_entries o.found.snapshots;
      owners = λ a. None;
      plans = λ a. no_plan;
      pins = λ a. [];
      stamps = λ a b. false;
      placed = λ a. [];
      captures = λ a r. None;
      changed = λ a t. false;
      loads = λ a. [];
      parted = λ a. no_part;
      waiting = λ b. None;
      pass = None;
      plain = found_plain o.found made;
    }
