-- Open regions, by their encoded names.
use Rattle.std.specs.Prelude.{ℕ, Bool, List}
use Rattle.std.specs.List.{list_any}
use Rattle.hb_cell.specs.Order.{same_bytes}
use Rattle.hb_records.specs.declared.region_info.RegionInfo.{RegionInfo}
use Rattle.plain_model.specs.Keys.{encoded}
use Rattle.plain_model.specs.Rows.{open_of}

-- an open region has the encoded name
abbrev pub is_open_in : List (RegionInfo × Bool) → List ℕ → Bool
is_open_in regions name = list_any (λ r. same_bytes (encoded r) name) (open_of regions)
