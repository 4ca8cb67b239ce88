-- Which rows a region holds.
use Rattle.std.specs.Prelude.{◌≡◌, ℕ, Bool, true, not, ◌&&◌, List, Option, Some, None, filter, find, map, count_by}
use Rattle.hb_records.specs.declared.region_info.RegionInfo.{RegionInfo}
use Rattle.hb_cell.specs.Order.{is_below}

-- before the end of a region, where it has one
abbrev pub is_before_end : List ℕ → Option (List ℕ) → Bool
is_before_end row None = true
is_before_end row (Some end) = is_below row end

-- the region holds the row: it is not below the start, and before the end
abbrev pub holds_row : RegionInfo → List ℕ → Bool
holds_row info row = not (is_below row info.start) && is_before_end row info.end

-- the open regions of a set, in its order; beside each region stands whether it is split
abbrev pub open_of : List (RegionInfo × Bool) → List RegionInfo
open_of regions = map (λ r. r.0) (filter (λ r. not r.1) regions)

-- the open region that holds a row
abbrev pub region_of : List (RegionInfo × Bool) → List ℕ → Option RegionInfo
region_of regions row = find (λ r. holds_row r row) (open_of regions)

-- the regions cover all rows without gap or overlap: each row is held by exactly one
abbrev pub CoverAll : List RegionInfo → Type 0
CoverAll regions = (row : List ℕ) → count_by (λ r. holds_row r row) regions ≡ 1
