-- When a written region set may become a table's newest: as the change of the actor's job, once.
use Rattle.std.specs.Prelude.{◌≡◌, ◌≢◌, ℕ, ◌+◌, ◌<◌, false, cond, List, [], ◌∷◌, map, Option, Some, None}
use Rattle.std.specs.List.{AllByRecursion}
use Rattle.std.specs.FinMap.{from_entries, entries, get}
use Rattle.hb_cell.specs.Order.{bytes_cmp}
use Rattle.hb_records.specs.declared.region_info.RegionInfo.{RegionInfo}
use Rattle.hb_records.specs.declared.table_schema.TableSchema.{TableSchema}
use Rattle.region_set.specs.declared.region_set.RegionSet.{RegionSet}
use Rattle.region_set.specs.declared.set_state.SetState.TheVariants as states
use Rattle.region_set.specs.RegionSet.{IsRegionSet}
use Rattle.plain_model.specs.declared.event.Event.{Event}
use Rattle.plain_model.specs.declared.event.Event.TheVariants as event
use Rattle.plain_model.specs.declared.hold.Hold.{Hold}
use Rattle.plain_model.specs.declared.hold.Hold.TheVariants as holds
use Rattle.plain_model.specs.declared.job.Job.{Job}
use Rattle.plain_model.specs.declared.job.Job.TheVariants as jobs
use Rattle.plain_model.specs.declared.region_key.RegionKey.{RegionKey}
use Rattle.hb_cell.specs.Order.{same_bytes}
use Rattle.plain_model.specs.Found.{open_keys, table_of_snapshot}
use Rattle.plain_model.specs.Keys.{key_of, key_at}
use Rattle.plain_model.specs.LiveEvents.{job_of, live_of}
use Rattle.plain_model.specs.Plain.{Plain}
use Rattle.plain_model.specs.declared.parts.Live.{Live}
use Rattle.plain_model.specs.TableEvents.{tables_on}
use Rattle.plain_model.specs.declared.put_cell.TheConstants.{MAX_NUMBER}
use Rattle.core_model.specs.declared.recipe.Recipe.TheVariants as recipes
use Rattle.core_model.specs.Actors.{HasHold}
use Rattle.core_model.specs.FileChanges.{set_number}
use Rattle.core_model.specs.FileGuards.{Wrote}
use Rattle.core_model.specs.Plans.{planned_for}
use Rattle.core_model.specs.Opened.{table_of}
use Rattle.core_model.specs.State.{Parts}

-- a new table's schema: its families in byte order, each with these versions
abbrev pub new_schema : List ℕ → List (List ℕ) → ℕ → TableSchema
new_schema table families versions =
    record { table = table; families = entries (from_entries {R = bytes_cmp} (map (λ (f : List ℕ). (f, versions)) families)) }

-- the regions of a table that an activity holds
abbrev pub held_regions : List ℕ → List Hold → List (List ℕ)
held_regions table [] = []
held_regions table (holds.Region r ∷ hs) = cond (same_bytes r.table table) (r.region ∷ held_regions table hs) (held_regions table hs)
held_regions table (_ ∷ hs) = held_regions table hs

abbrev pub holds_in : Option Live → List Hold
holds_in None = []
holds_in (Some l) = l.holds

-- the change of a table that a job makes
abbrev pub IsChange : Option Job → Event → List ℕ → ℕ → Parts → Type 0
IsChange (Some (jobs.Create t families versions splits)) (event.Create schema regions) table a s =
    (t ≡ table) × (schema ≡ new_schema t families versions) × (regions ≡ (s.plans a).regions)
IsChange (Some (jobs.Enable t)) (event.Enable u) table a s = (t ≡ table) × (u ≡ table)
IsChange (Some (jobs.Disable t)) (event.Disable u) table a s = (t ≡ table) × (u ≡ table)
IsChange (Some (jobs.Drop t)) (event.Drop u) table a s = (t ≡ table) × (u ≡ table)
IsChange (Some (jobs.Split t row)) (event.Split u parent low high) table a s =
    (t ≡ table) × (u ≡ table) × HasHold s.plain.live a (holds.Region (key_at table parent)) × (low ∷ high ∷ [] ≡ (s.plans a).regions)
IsChange (Some (jobs.Clone name t)) (event.Clone copied u regions) table a s =
    (t ≡ table) × (u ≡ table) × (copied ≡ name) × (regions ≡ (s.plans a).regions)
IsChange (Some (jobs.Restore name)) (event.Restore copied regions) table a s =
    (copied ≡ name) × (regions ≡ (s.plans a).regions) × HasHold s.plain.live a (holds.Table table) × (table_of_snapshot s.plain name ≡ Some table)
IsChange (Some jobs.Janitor) (event.Remove t regions) table a s =
    (t ≡ table) × (regions ≡ held_regions table (holds_in (live_of s.plain.live a))) × (regions ≢ [])
IsChange _ change table a s = ⊥

-- the regions whose unflushed cells must be gone: those of a table that is disabled, and one that becomes split
abbrev pub flushed_by : Event → Plain → List RegionKey
flushed_by (event.Disable t) p = open_keys p t
flushed_by (event.Split t parent low high) p = key_at t parent ∷ []
flushed_by _ p = []

-- the new regions that stand on files: those of any job but a Create
abbrev pub built_by : Event → List RegionInfo
built_by (event.Split t parent low high) = low ∷ high ∷ []
built_by (event.Clone name t regions) = regions
built_by (event.Restore name regions) = regions
built_by _ = []

-- a new region has list 1 with all entries that are planned for it now
pub record IsBuilt (a : ℕ) (s : Parts) (info : RegionInfo) : Type 0 where
  pub number : (s.lists (key_of info)).number ≡ 1
  pub entries : (s.lists (key_of info)).entries ≡ planned_for (s.plans a).entries (key_of info)

-- a dropped set says so, and any other is as the change leaves the table
abbrev pub IsDropped : Event → RegionSet → Type 0
IsDropped (event.Drop t) set = set.state ≡ states.Dropped
IsDropped _ set = set.state ≢ states.Dropped

pub record CanCommitRegions (a : ℕ) (table : List ℕ) (n : ℕ) (name : List ℕ) (set : RegionSet) (change : Event) (s : Parts) : Type 0 where
  pub wrote : Wrote a name (recipes.Set table set) s.disk s.written
  -- the set can be written, and is the next one
  pub lawful : IsRegionSet table set
  pub replaces : set_number (get s.sets table) ≡ n
  pub number : set.number ≡ n + 1
  pub unspent : n < MAX_NUMBER
  -- the job's change, and not made before
  pub once : s.changed a table ≡ false
  pub is_change : IsChange (job_of s.plain.live a) change table a s
  pub shown : table_of set ≡ get (tables_on change s.plain.snapshots s.plain.tables) table
  pub dropped : IsDropped change set
  pub flushed : AllByRecursion (λ r. s.plain.mem r ≡ []) (flushed_by change s.plain)
  pub built : AllByRecursion (IsBuilt a s) (built_by change)
