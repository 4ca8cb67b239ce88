-- What a step makes of the parts that speak of files: counters, recipes, lists, sets, snapshots.
use Rattle.std.specs.Prelude.{ℕ, ◌+◌, ◌==◌, not, cond, List, ◌++◌, length, map, Option, Some, None, option_map}
use Rattle.std.specs.List.{filter}
use Rattle.std.specs.FinMap.{get, insert, remove}
use Rattle.hb_layout.specs.declared.base.Base.{Base}
use Rattle.core_model.specs.Site.{Staged}
use Rattle.ns_tree.specs.declared.file.FileState.{FileState}
use Rattle.hb_cell.specs.declared.cell.Cell.{Cell}
use Rattle.region_set.specs.declared.region_set.RegionSet.{RegionSet}
use Rattle.plain_model.specs.declared.region_key.RegionKey.{RegionKey}
use Rattle.hb_cell.specs.Order.{same_bytes}
use Rattle.plain_model.specs.Names.{Names}
use Rattle.plain_model.specs.CellEvents.{each_with}
use Rattle.plain_model.specs.Keys.{key_of, set_at, set_each}
use Rattle.core_model.specs.declared.entry.Entry.{Entry}
use Rattle.core_model.specs.declared.recipe.Recipe.TheVariants as recipes
use Rattle.core_model.specs.declared.region_files.RegionFiles.{RegionFiles}
use Rattle.core_model.specs.declared.snapshot.Snapshot.{Snapshot}
use Rattle.core_model.specs.declared.targets.MoveFrom.TheVariants as moves
use Rattle.core_model.specs.declared.targets.OldFile.TheVariants as old
use Rattle.core_model.specs.declared.targets.Why.TheVariants as why
use Rattle.core_model.specs.declared.step.Started.TheVariants.{Live}
use Rattle.core_model.specs.declared.step.Step.{Step}
use Rattle.core_model.specs.declared.step.Step.TheVariants as step
use Rattle.core_model.specs.Keys.{same_base, set_base, set_name, home}
use Rattle.core_model.specs.Disk.{Disk}
use Rattle.core_model.specs.Entries.{Made, no_list, stem, file_of, is_in, is_own_of}
use Rattle.core_model.specs.State.{Written}

-- file names: one for each file written, and for each staged file placed whole
abbrev pub files_by : Step → ℕ → ℕ
files_by (step.WriteTmp actor recipe name cells bytes) files = files + 1
files_by (step.Place actor (moves.StagedBulk folder name) base cells) files = files + 1
files_by _ files = files

abbrev pub ids_by : Step → ℕ → ℕ
ids_by (step.Start who job (Live actor) drawn) ids = ids + length drawn.regions
ids_by _ ids = ids

abbrev pub drawn_by : Step → List RegionKey → List RegionKey
drawn_by (step.Start who job (Live actor) new) drawn = drawn ++ map key_of new.regions
drawn_by _ drawn = drawn

-- every base with the digits of a written name has its cells, wherever the file is placed
abbrev pub made_with : List ℕ → List Cell → Made → Made
made_with name cells made = λ b. cond (same_bytes (stem b.name) name) (Some cells) (made b)

abbrev pub made_by : Step → Made → Made
made_by (step.WriteTmp actor (recipes.Frozen region family) name cells bytes) made = made_with name cells made
made_by (step.WriteTmp actor (recipes.Merge region inputs major) name cells bytes) made = made_with name cells made
made_by (step.WriteTmp actor (recipes.Piece source from to) name cells bytes) made = made_with name cells made
made_by (step.Place actor (moves.StagedBulk folder name) base cells) made = set_base base (Some cells) made
made_by _ made = made

-- so has it its size; a staged file that is placed whole has that which it had at the opening
abbrev pub sized_with : List ℕ → List ℕ → (Base → Option ℕ) → Base → Option ℕ
sized_with name bytes sizes = λ b. cond (same_bytes (stem b.name) name) (Some (length bytes)) (sizes b)

abbrev pub size_in : Option FileState → Option ℕ
size_in o = option_map (λ (f : FileState). length f.bytes) o

abbrev pub sizes_by : Step → Disk → (Base → Option ℕ) → Base → Option ℕ
sizes_by (step.WriteTmp actor recipe name cells bytes) opened sizes = sized_with name bytes sizes
sizes_by (step.Place actor (moves.StagedBulk folder name) base cells) opened sizes = set_base base (size_in (opened (Staged folder base.family name))) sizes
sizes_by _ opened sizes = sizes

abbrev pub written_by : Step → (List ℕ → Option Written) → List ℕ → Option Written
written_by (step.WriteTmp actor recipe name cells bytes) written = set_name name (Some (record { by = actor.0; recipe = recipe; cells = cells })) written
written_by _ written = written

-- a region whose name is drawn has no list yet
abbrev pub lists_by : Step → (RegionKey → RegionFiles) → RegionKey → RegionFiles
lists_by (step.CommitList actor region number name why list cells planned) lists = set_at region list lists
lists_by (step.Start who job (Live actor) drawn) lists = set_each (each_with no_list drawn.regions) lists
lists_by _ lists = lists

-- the entries of a list that another no longer has
abbrev pub gone : List Entry → List Entry → List Entry
gone old new = filter (λ e. not (is_in new e)) old

abbrev pub compacted_by : Step → (RegionKey → RegionFiles) → (RegionKey → List Entry) → RegionKey → List Entry
compacted_by (step.CommitList actor region number name (why.Compact major) list cells planned) lists compacted =
    set_at region (compacted region ++ gone (lists region).entries list.entries) compacted
compacted_by (step.Archive actor base) lists compacted = set_at (home base) (filter (λ e. not (is_own_of base e)) (compacted (home base))) compacted
compacted_by (step.Unlink actor entry region) lists compacted = set_at region (filter (λ e. not (same_base (file_of region e) (file_of region entry))) (compacted region)) compacted
compacted_by _ lists compacted = compacted

-- the number of a table's newest set, 0 where it has none
abbrev pub set_number : Option RegionSet → ℕ
set_number None = 0
set_number (Some s) = s.number

abbrev pub sets_by : Step → Names RegionSet → Names RegionSet
sets_by (step.CommitRegions actor table number name new change) sets = insert sets table new
sets_by (step.DropOld actor (old.Set table number)) sets = cond (set_number (get sets table) == number) (remove sets table) sets
sets_by _ sets = sets

abbrev pub snapshots_by : Step → Names Snapshot → Names Snapshot
snapshots_by (step.Complete actor name copied) snapshots = insert snapshots name copied
snapshots_by (step.Uncomplete actor name) snapshots = remove snapshots name
snapshots_by _ snapshots = snapshots
