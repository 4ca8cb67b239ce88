use Rattle.std.specs.Prelude.{◌≡◌, ◌≢◌, ℕ, ◌<◌, ◌≤◌, ◌^◌, List, [], ◌∷◌, ◌++◌, length, codes, true, false, Bool, Option, Some, None, IfSome, ◌==◌}
use Rattle.std.specs.Fmt.{decimal}
use Rattle.std.specs.Ordering.{nat_cmp, on, then_cmp}
use Rattle.std.specs.Cmp.Lexicographic.{slice_cmp}
use Rattle.std.specs.declared.cmp.Ordering.{Ordering}
use Rattle.std.specs.declared.cmp.Ordering.TheVariants.{Greater}
use Rattle.hex.specs.Hex.{IsBytes}
use Rattle.hb_records.specs.declared.region_info.RegionInfo.{RegionInfo}
use Rattle.hb_row_text.specs.RowText.{row_text}
use Rattle.commit_line.specs.Line.{field, ended}
use Rattle.hb_row_text.specs.declared.row_text.TheConstants.{MAX_ROW}

-- a row key: at most 32,767 bytes
pub record IsRow (row : List ℕ) : Type 0 where
  pub small : IsBytes row
  pub limit : length row ≤ MAX_ROW

-- a region that a set of this table can have: its end, where there is one, is a row key of at least a byte
pub record IsRegion (table : List ℕ) (region : RegionInfo × Bool) : Type 0 where
  pub of_table : region.0.table ≡ table
  pub id : region.0.id < 2 ^ 64
  pub start : IsRow region.0.start
  pub end : IfSome region.0.end IsRow
  pub end_some : IfSome region.0.end (λ row. 0 < length row)

-- the order of regions: by start, then by id
abbrev pub region_cmp : RegionInfo → RegionInfo → Ordering
region_cmp = then_cmp (on (λ info. info.start) (slice_cmp nat_cmp)) (on (λ info. info.id) nat_cmp)

-- a region that may stand behind another: it is not below that one
abbrev pub IsRegionBehind : List ℕ → Option (RegionInfo × Bool) → RegionInfo × Bool → Type 0
IsRegionBehind table None region = IsRegion table region
IsRegionBehind table (Some last) region = IsRegion table region × (region_cmp last.0 region.0 ≢ Greater)

-- the word that tells whether a region is split
abbrev pub split_word : Bool → List ℕ
split_word true = codes "split"
split_word false = codes "open"

-- the end of a region as text: - where it has none, whose code is 45
abbrev pub end_text : Option (List ℕ) → List ℕ
end_text None = 45 ∷ []
end_text (Some row) = row_text row

-- the line of a region
abbrev pub region_text : RegionInfo × Bool → List ℕ
region_text region =
    field (codes "region") ++ (field (decimal region.0.id) ++ (field (split_word region.1) ++ (field (row_text region.0.start) ++ ended (end_text region.0.end))))

-- whether a line's first byte is that of a region's, which is r
abbrev pub begins_region : ℕ → Bool
begins_region byte = byte == 114
