-- What an event makes of the tables: their states, schemas and regions.
use Rattle.std.specs.Prelude.{ℕ, Bool, true, false, not, ◌||◌, List, [], ◌∷◌, Option, Some, None, map, filter, if◌then◌else◌}
use Rattle.std.specs.List.{list_any}
use Rattle.std.specs.Ordering.{is_gt}
use Rattle.std.specs.FinMap.{get, insert, remove}
use Rattle.hb_records.specs.declared.region_info.RegionInfo.{RegionInfo}
use Rattle.hb_records.specs.declared.table_schema.TableSchema.{TableSchema}
use Rattle.region_set.specs.RegionLine.{region_cmp}
use Rattle.plain_model.specs.declared.event.Event.{Event}
use Rattle.plain_model.specs.declared.event.Event.TheVariants.{Create, Enable, Disable, Drop, Split, Clone, Restore, Remove}
use Rattle.hb_cell.specs.Order.{same_bytes}
use Rattle.plain_model.specs.Names.{Names, change}
use Rattle.plain_model.specs.Keys.{encoded}
use Rattle.plain_model.specs.declared.parts.PlainTable.{PlainTable}
use Rattle.plain_model.specs.declared.parts.PlainSnapshot.{PlainSnapshot}

-- a table whose regions are all open
abbrev pub table_of : Bool → TableSchema → List RegionInfo → PlainTable
table_of enabled schema regions = record { enabled = enabled; schema = schema; regions = map (λ r. (r, false)) regions }

-- a region, open, put at its place in the order of starts and ids
abbrev pub with_region : RegionInfo → List (RegionInfo × Bool) → List (RegionInfo × Bool)
with_region r [] = (r, false) ∷ []
with_region r (s ∷ ss) = if is_gt (region_cmp r s.0) then s ∷ with_region r ss else (r, false) ∷ s ∷ ss

-- whether a region is one of these, by its encoded name
abbrev pub is_one_of : List (List ℕ) → RegionInfo × Bool → Bool
is_one_of names r = list_any (λ name. same_bytes name (encoded r.0)) names

-- with these regions marked as split
abbrev pub with_split : List (List ℕ) → List (RegionInfo × Bool) → List (RegionInfo × Bool)
with_split names = map (λ r. (r.0, r.1 || is_one_of names r))

-- without these regions
abbrev pub without_regions : List (List ℕ) → List (RegionInfo × Bool) → List (RegionInfo × Bool)
without_regions names = filter (λ r. not (is_one_of names r))

-- the schema under another table's name
abbrev pub schema_for : List ℕ → TableSchema → TableSchema
schema_for table schema = record { table = table; families = schema.families }

-- a snapshot's table made of it under this name, in this state and with these regions; nothing where there is no snapshot
abbrev pub with_copy : List ℕ → Bool → List RegionInfo → Option PlainSnapshot → Names PlainTable → Names PlainTable
with_copy table enabled regions None tables = tables
with_copy table enabled regions (Some s) tables = insert tables table (table_of enabled (schema_for table s.schema) regions)

-- the same of the snapshot's own table
abbrev pub with_restored : List RegionInfo → Option PlainSnapshot → Names PlainTable → Names PlainTable
with_restored regions None tables = tables
with_restored regions (Some s) tables = insert tables s.schema.table (table_of false s.schema regions)

abbrev pub tables_on : Event → Names PlainSnapshot → Names PlainTable → Names PlainTable
tables_on (Create schema regions) snapshots tables = insert tables schema.table (table_of true schema regions)
tables_on (Enable t) snapshots tables = change t (λ x. record x { enabled = true }) tables
tables_on (Disable t) snapshots tables = change t (λ x. record x { enabled = false }) tables
tables_on (Drop t) snapshots tables = remove tables t
tables_on (Split t parent low high) snapshots tables =
    change t (λ x. record x { regions = with_region low (with_region high (with_split (parent ∷ []) x.regions)) }) tables
tables_on (Clone s t regions) snapshots tables = with_copy t true regions (get snapshots s) tables
tables_on (Restore s regions) snapshots tables = with_restored regions (get snapshots s) tables
tables_on (Remove t regions) snapshots tables = change t (λ x. record x { regions = without_regions regions x.regions }) tables
tables_on _ snapshots tables = tables
