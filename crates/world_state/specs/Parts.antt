-- The parts of the state as they are kept at run time, and what a change makes of each.
use Rattle.std.specs.Prelude.{◌≡◌, ◌↔◌, ℕ, ◌+◌, ◌==◌, Bool, true, not, cond, List, [], ◌∷◌, ◌++◌, map, Option, Some, None, option_map}
use Rattle.std.specs.List.{AllByRecursion, filter, find}
use Rattle.std.specs.FinMap.{FinMap, contains_key, empty, from_entries, get, insert, remove}
use Rattle.cell_sight.specs.Member.{Member}
use Rattle.hb_cell.specs.Order.{bytes_cmp}
use Rattle.ns_tree.specs.declared.file.FileState.{FileState}
use Rattle.reserved_map.specs.Filled.{filled}
use Rattle.reserved_map.specs.Keys.{region_cmp}
use Rattle.region_set.specs.declared.region_set.RegionSet.{RegionSet}
use Rattle.plain_model.specs.declared.region_key.RegionKey.{RegionKey}
use Rattle.plain_model.specs.Names.{Names}
use Rattle.core_model.specs.declared.found.Found.{Found}
use Rattle.core_model.specs.declared.recipe.Recipe.{Recipe}
use Rattle.core_model.specs.declared.recipe.Recipe.TheVariants as recipes
use Rattle.core_model.specs.Disk.{Disk}
use Rattle.core_model.specs.FileChanges.{set_number}
use Rattle.core_model.specs.Replay.{closed_by}
use Rattle.core_model.specs.Site.{Tmp}
use Rattle.core_model.specs.State.{State, Written, no_plan}
use Rattle.core_places.specs.Places.{ArePlaces, put_in, taken_out}
use Rattle.world_state.specs.declared.at_work.AtWork.{AtWork}
use Rattle.world_state.specs.declared.at_work.WorkChange.{WorkChange}
use Rattle.world_state.specs.declared.at_work.WorkChange.TheVariants as work
use Rattle.world_state.specs.declared.change.Change.{Change}
use Rattle.world_state.specs.declared.counts.CountChange.{CountChange}
use Rattle.world_state.specs.declared.counts.CountChange.TheVariants as count
use Rattle.world_state.specs.declared.counts.Counts.{Counts}
use Rattle.world_state.specs.declared.sets.SetChange.{SetChange}
use Rattle.world_state.specs.declared.sets.SetChange.TheVariants as sets
use Rattle.world_state.specs.declared.state.CoreState.{CoreState}
use Rattle.world_state.specs.declared.written.WrittenChange.{WrittenChange}
use Rattle.world_state.specs.declared.written.WrittenChange.TheVariants as written
use Rattle.world_state.specs.declared.written.WrittenFile.{WrittenFile}
use Rattle.world_state.specs.Opened.{places_in}
use Rattle.world_state.specs.Works.{IsWork, live_in}

abbrev pub counts_with : CountChange → Counts → Counts
counts_with count.Nothing c = c
counts_with count.File c = record { files = c.files + 1; ids = c.ids; begun = c.begun }
counts_with (count.Actor ids) c = record { files = c.files; ids = c.ids + ids; begun = c.begun + 1 }

-- ---- regions whose names were drawn

abbrev pub Drawn : Type 0
Drawn = FinMap region_cmp (Unit {0})

abbrev pub with_all : List RegionKey → Drawn → Drawn
with_all [] drawn = drawn
with_all (k ∷ ks) drawn = with_all ks (insert drawn k tt)

-- they are these
abbrev pub AreDrawn : Drawn → List RegionKey → Type 0
AreDrawn map regions = (r : RegionKey) → (contains_key map r ≡ true) ↔ Member r regions

-- ---- temporary files that stand

abbrev pub Recorded : Type 0
Recorded = Names WrittenFile

abbrev pub written_with : WrittenChange → Recorded → Recorded
written_with written.Same files = files
written_with (written.Adds name file) files = insert files name file
written_with (written.Takes name) files = remove files name

-- the file that is taken
abbrev pub taken_by : WrittenChange → Recorded → Option WrittenFile
taken_by (written.Takes name) files = get files name
taken_by _ files = None

-- what stands of the files that were written: by whom, and of what
abbrev pub brief : Written → WrittenFile
brief w = record { actor = w.by; recipe = w.recipe }

abbrev pub recorded : Option FileState → Option Written → Option WrittenFile
recorded None w = None
recorded (Some f) w = option_map brief w

abbrev pub AreRecorded : Recorded → Disk → (List ℕ → Option Written) → Type 0
AreRecorded files disk written = (name : List ℕ) → get files name ≡ recorded (disk (Tmp name)) (written name)

-- ---- region sets

-- the set that a file was written of
abbrev pub set_written : Recipe → Option RegionSet
set_written (recipes.Set table set) = Some set
set_written _ = None

abbrev pub set_in : Option WrittenFile → Option RegionSet
set_in None = None
set_in (Some file) = set_written file.recipe

abbrev pub with_set : List ℕ → Option RegionSet → Names RegionSet → Names RegionSet
with_set table None sets = sets
with_set table (Some set) sets = insert sets table set

abbrev pub sets_with : SetChange → Option RegionSet → Names RegionSet → Names RegionSet
sets_with sets.Same set newest = newest
sets_with (sets.Commits table) set newest = with_set table set newest
sets_with (sets.Drops table number) set newest = cond (set_number (get newest table) == number) (remove newest table) newest

-- ---- activities

-- the activity of this number
abbrev pub work_of : List AtWork → ℕ → Option AtWork
work_of works actor = find (λ (work : AtWork). work.live.actor.0 == actor) works

-- an activity whose plan is built
abbrev pub freed : ℕ → AtWork → AtWork
freed actor work = cond (work.live.actor.0 == actor) (record { live = work.live; worker = work.worker; plan = no_plan }) work

abbrev pub is_not : ℕ → AtWork → Bool
is_not actor work = not (work.live.actor.0 == actor)

abbrev pub works_with : WorkChange → List AtWork → List AtWork
works_with work.Same works = works
works_with (work.Begins activity) works = works ++ activity ∷ []
works_with (work.Frees actor) works = map (freed actor.0) works
works_with (work.Ends actor) works = filter (is_not actor.0) works

-- ---- all parts

-- they are those of the replay
pub record IsReplay (a : CoreState) (s : State) : Type 0 where
  pub files : a.counts.files ≡ s.now.files
  pub ids : a.counts.ids ≡ s.now.ids
  pub begun : a.counts.begun ≡ s.now.begun
  pub drawn : AreDrawn (filled region_cmp a.drawn) s.now.drawn
  pub places : ArePlaces (filled bytes_cmp a.places) s.now.disk
  pub written : AreRecorded (filled bytes_cmp a.written) s.now.disk s.now.written
  pub sets : filled bytes_cmp a.sets ≡ s.now.sets
  pub snapshots : filled bytes_cmp a.snapshots ≡ s.now.snapshots
  pub live : map live_in a.works.items ≡ s.now.plain.live
  pub works : AllByRecursion (IsWork s.now.begun s.now.owners s.now.plans) a.works.items
  pub closed : a.closed ≡ s.closed

-- nothing was done, and this was found
pub record IsFound (found : Found) (a : CoreState) : Type 0 where
  pub counts : a.counts ≡ record { files = 0; ids = 0; begun = 0 }
  pub drawn : filled region_cmp a.drawn ≡ empty
  pub places : filled bytes_cmp a.places ≡ places_in found.places
  pub written : filled bytes_cmp a.written ≡ empty
  pub sets : filled bytes_cmp a.sets ≡ from_entries found.sets
  pub snapshots : filled bytes_cmp a.snapshots ≡ from_entries found.snapshots
  pub works : a.works.items ≡ []
  pub closed : a.closed ≡ None

-- nothing that is seen differs
pub record IsSame (a b : CoreState) : Type 0 where
  pub counts : b.counts ≡ a.counts
  pub drawn : filled region_cmp b.drawn ≡ filled region_cmp a.drawn
  pub places : filled bytes_cmp b.places ≡ filled bytes_cmp a.places
  pub written : filled bytes_cmp b.written ≡ filled bytes_cmp a.written
  pub sets : filled bytes_cmp b.sets ≡ filled bytes_cmp a.sets
  pub snapshots : filled bytes_cmp b.snapshots ≡ filled bytes_cmp a.snapshots
  pub works : b.works.items ≡ a.works.items
  pub closed : b.closed ≡ a.closed

-- a change is made, by the entry of this number
pub record IsAfter (change : Change) (number : ℕ) (failed : Bool) (a b : CoreState) : Type 0 where
  pub counts : b.counts ≡ counts_with change.counts a.counts
  pub drawn : filled region_cmp b.drawn ≡ with_all change.drawn (filled region_cmp a.drawn)
  pub places : filled bytes_cmp b.places ≡ put_in change.places.made (taken_out change.places.gone (filled bytes_cmp a.places))
  pub written : filled bytes_cmp b.written ≡ written_with change.written (filled bytes_cmp a.written)
  pub sets : filled bytes_cmp b.sets ≡ sets_with change.sets (set_in (taken_by change.written (filled bytes_cmp a.written))) (filled bytes_cmp a.sets)
  pub snapshots : filled bytes_cmp b.snapshots ≡ filled bytes_cmp a.snapshots
  pub works : b.works.items ≡ works_with change.works a.works.items
  pub closed : b.closed ≡ closed_by number failed a.closed
