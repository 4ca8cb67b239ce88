-- What a job is to build: the new regions, with ids that count up, and the entries of each.
use Rattle.std.specs.Prelude.{ℕ, ◌+◌, ◌*◌, Bool, true, false, cond, List, [], ◌∷◌, ◌++◌, map, zip, Option, Some, None}
use Rattle.std.specs.FinMap.{get}
use Rattle.hb_records.specs.declared.region_info.RegionInfo.{RegionInfo}
use Rattle.plain_model.specs.declared.job.Job.{Job}
use Rattle.plain_model.specs.declared.job.Job.TheVariants as jobs
use Rattle.plain_model.specs.declared.region_key.RegionKey.{RegionKey}
use Rattle.hb_cell.specs.Order.{same_bytes}
use Rattle.plain_model.specs.Names.{Names}
use Rattle.plain_model.specs.Keys.{key_of, encoded}
use Rattle.plain_model.specs.Found.{region_with}
use Rattle.plain_model.specs.Plain.{Plain}
use Rattle.core_model.specs.declared.entry.Entry.{Entry}
use Rattle.core_model.specs.declared.entry.Entry.TheVariants.{Own, Link, Half}
use Rattle.core_model.specs.declared.region_files.RegionFiles.{RegionFiles}
use Rattle.core_model.specs.declared.snapshot.CopiedRegion.{CopiedRegion}
use Rattle.core_model.specs.declared.snapshot.Snapshot.{Snapshot}

-- the id of a count in an opening
abbrev pub region_id : ℕ → ℕ → ℕ
region_id epoch count = epoch * 4294967296 + count

-- a region with new bounds
abbrev pub region_of : List ℕ → ℕ → List ℕ → Option (List ℕ) → RegionInfo
region_of table id start end = record { id = id; table = table; start = start; end = end }

-- the regions between splits, from a row on; the first has this id
abbrev pub split_regions : List ℕ → ℕ → List ℕ → List (List ℕ) → List RegionInfo
split_regions table id start [] = region_of table id start None ∷ []
split_regions table id start (row ∷ rows) = region_of table id start (Some row) ∷ split_regions table (id + 1) row rows

-- the two regions of one that is split at a row
abbrev pub daughters : List ℕ → ℕ → List ℕ → Option RegionInfo → List RegionInfo
daughters table id row None = []
daughters table id row (Some r) = region_of table id r.start (Some row) ∷ region_of table (id + 1) row r.end ∷ []

-- regions with the bounds of a snapshot's
abbrev pub copied_regions : List ℕ → ℕ → List CopiedRegion → List RegionInfo
copied_regions table id [] = []
copied_regions table id (r ∷ rs) = region_of table id r.info.start r.info.end ∷ copied_regions table (id + 1) rs

abbrev pub regions_in : Option Snapshot → List CopiedRegion
regions_in None = []
regions_in (Some s) = s.regions

abbrev pub table_in : Option Snapshot → List ℕ
table_in None = []
table_in (Some s) = s.schema.table

-- the new regions of a job, the first of which has this id
abbrev pub new_regions : Job → ℕ → Plain → Names Snapshot → List RegionInfo
new_regions (jobs.Create t families versions splits) id p snapshots = split_regions t id [] splits
new_regions (jobs.Split t row) id p snapshots = daughters t id row (region_with p t row)
new_regions (jobs.Clone name t) id p snapshots = copied_regions t id (regions_in (get snapshots name))
new_regions (jobs.Restore name) id p snapshots = copied_regions (table_in (get snapshots name)) id (regions_in (get snapshots name))
new_regions _ id p snapshots = []

-- a half of an entry of a region that is split
abbrev pub half_of : List ℕ → List ℕ → Bool → Entry → Entry
half_of parent row top (Own b) = Half b false parent row top
half_of parent row top (Link b) = Half b true parent row top
half_of parent row top (Half b linked p r t) = Half b linked p r t

-- an entry as a copy of its region has it: a link, or a half over a link
abbrev pub copy_of : Entry → Entry
copy_of (Own b) = Link b
copy_of (Link b) = Link b
copy_of (Half b linked parent row top) = Half b true parent row top

-- these entries in a region
abbrev pub in_region : RegionInfo → List Entry → List (List ℕ × Entry)
in_region r es = map (λ e. (encoded r, e)) es

-- both halves of each entry, for the two regions of a split
abbrev pub halves_in : List RegionInfo → List ℕ → List ℕ → List Entry → List (List ℕ × Entry)
halves_in (low ∷ high ∷ []) parent row es = in_region low (map (half_of parent row false) es) ++ in_region high (map (half_of parent row true) es)
halves_in _ parent row es = []

-- the copies of a snapshot's entries, region by region
abbrev pub copies_in : List (RegionInfo × CopiedRegion) → List (List ℕ × Entry)
copies_in [] = []
copies_in (x ∷ xs) = in_region x.0 (map copy_of x.1.entries) ++ copies_in xs

abbrev pub split_entries : List RegionInfo → List ℕ → Option RegionInfo → (RegionKey → RegionFiles) → List (List ℕ × Entry)
split_entries regions row None lists = []
split_entries regions row (Some r) lists = halves_in regions (encoded r) row (lists (key_of r)).entries

-- the entries of the new regions
abbrev pub planned_entries : Job → List RegionInfo → Plain → Names Snapshot → (RegionKey → RegionFiles) → List (List ℕ × Entry)
planned_entries (jobs.Split t row) regions p snapshots lists = split_entries regions row (region_with p t row) lists
planned_entries (jobs.Clone name t) regions p snapshots lists = copies_in (zip regions (regions_in (get snapshots name)))
planned_entries (jobs.Restore name) regions p snapshots lists = copies_in (zip regions (regions_in (get snapshots name)))
planned_entries _ regions p snapshots lists = []

-- the entries planned for a region
abbrev pub planned_for : List (List ℕ × Entry) → RegionKey → List Entry
planned_for [] r = []
planned_for (x ∷ xs) r = cond (same_bytes x.0 r.region) (x.1 ∷ planned_for xs r) (planned_for xs r)

-- the halves that a split plans of entries that its region gains
abbrev pub more_entries : Option Job → List RegionInfo → RegionKey → List Entry → List (List ℕ × Entry)
more_entries (Some (jobs.Split t row)) regions parent added = halves_in regions parent.region row added
more_entries _ regions parent added = []
