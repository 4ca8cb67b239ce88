-- What the jobs ask of a state: tables, regions and snapshots by their names.
use Rattle.std.specs.Prelude.{ℕ, ◌+◌, Bool, true, false, ◌&&◌, List, [], map, length, sum_by, Option, Some, None, option_map, if◌then◌else◌}
use Rattle.std.specs.List.{list_any, list_all}
use Rattle.std.specs.FinMap.{get, contains_key}
use Rattle.hb_records.specs.declared.region_info.RegionInfo.{RegionInfo}
use Rattle.plain_model.specs.declared.hold.Hold.{Hold}
use Rattle.plain_model.specs.declared.hold.Hold.TheVariants as holds
use Rattle.plain_model.specs.declared.job.Job.{Job}
use Rattle.plain_model.specs.declared.job.Job.TheVariants as jobs
use Rattle.plain_model.specs.declared.region_key.RegionKey.{RegionKey}
use Rattle.hb_cell.specs.Order.{same_bytes}
use Rattle.plain_model.specs.Keys.{encoded, key_of}
use Rattle.plain_model.specs.Plain.{Plain}
use Rattle.plain_model.specs.declared.parts.PlainTable.{PlainTable}
use Rattle.plain_model.specs.declared.parts.PlainSnapshot.{PlainSnapshot}
use Rattle.plain_model.specs.declared.parts.Live.{Live}
use Rattle.plain_model.specs.Rows.{open_of, region_of}

abbrev pub is_table : Plain → List ℕ → Bool
is_table s t = contains_key s.tables t

abbrev pub is_snapshot : Plain → List ℕ → Bool
is_snapshot s name = contains_key s.snapshots name

-- the regions of a table's set, each with whether it is split; none where there is no table
abbrev pub regions_in : Option PlainTable → List (RegionInfo × Bool)
regions_in None = []
regions_in (Some t) = t.regions

abbrev pub set_of : Plain → List ℕ → List (RegionInfo × Bool)
set_of s t = regions_in (get s.tables t)

-- the open regions of a table in order
abbrev pub open_in : Plain → List ℕ → List RegionInfo
open_in s t = open_of (set_of s t)

-- their keys
abbrev pub open_keys : Plain → List ℕ → List RegionKey
open_keys s t = map key_of (open_in s t)

-- the open region of a table that holds a row
abbrev pub region_with : Plain → List ℕ → List ℕ → Option RegionInfo
region_with s t row = region_of (set_of s t) row

-- its key
abbrev pub key_with : Plain → List ℕ → List ℕ → Option RegionKey
key_with s t row = option_map key_of (region_with s t row)

abbrev pub is_enabled_in : Option PlainTable → Bool
is_enabled_in None = false
is_enabled_in (Some t) = t.enabled

-- the table exists and is enabled
abbrev pub is_enabled : Plain → List ℕ → Bool
is_enabled s t = is_enabled_in (get s.tables t)

abbrev pub families_of_table : Option PlainTable → List (List ℕ × ℕ)
families_of_table None = []
families_of_table (Some t) = t.schema.families

-- the families of a table with their versions
abbrev pub families_of : Plain → List ℕ → List (List ℕ × ℕ)
families_of s t = families_of_table (get s.tables t)

abbrev pub has_family : Plain → List ℕ → List ℕ → Bool
has_family s t family = list_any (λ f. same_bytes f.0 family) (families_of s t)

-- the table of a snapshot
abbrev pub table_of_snapshot : Plain → List ℕ → Option (List ℕ)
table_of_snapshot s name = option_map (λ (x : PlainSnapshot). x.schema.table) (get s.snapshots name)

-- the region of a key is open
abbrev pub is_open : Plain → RegionKey → Bool
is_open s k = list_any (λ r. same_bytes (encoded r) k.region) (open_in s k.table)

-- each region that an actor holds is open
abbrev pub is_open_hold : Plain → Hold → Bool
is_open_hold s (holds.Region k) = is_open s k
is_open_hold s _ = true

-- the job splits a region of the table
abbrev pub is_dividing : List ℕ → Job → Bool
is_dividing t (jobs.Split u row) = same_bytes u t
is_dividing t _ = false

-- the regions that a live actor is still to add to the table: two for a split, while what it holds is open
abbrev pub adds : Plain → List ℕ → Live → ℕ
adds s t a = if is_dividing t a.job && list_all (is_open_hold s) a.holds then 2 else 0

-- the regions of the table's set, with those that live splits are still to add
abbrev pub region_count : Plain → List ℕ → ℕ
region_count s t = length (set_of s t) + sum_by (adds s t) s.live
