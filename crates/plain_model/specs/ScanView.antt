-- What a scan sees of a region at its pin, and where it goes on.
use Rattle.std.specs.Prelude.{ℕ, List, [], ◌∷◌, ◌++◌, Option}
use Rattle.hb_cell.specs.declared.cell.Cell.{Cell}
use Rattle.hb_records.specs.declared.region_info.RegionInfo.{RegionInfo}
use Rattle.plain_model.specs.declared.region_key.RegionKey.{RegionKey}
use Rattle.plain_model.specs.declared.reply.Reply.{Reply}
use Rattle.plain_model.specs.Plain.{Plain}
use Rattle.plain_model.specs.CellEvents.{from}
use Rattle.plain_model.specs.Found.{families_of, region_with}
use Rattle.plain_model.specs.Replies.{first, not_found, not_enabled}
use Rattle.cell_sight.specs.Visible.{visible}

-- all cells of a region, those of its files first
abbrev pub cells_of : Plain → RegionKey → List Cell
cells_of s k = s.stable k ++ s.mem k

-- what a read of the region shows
abbrev pub shown : Plain → RegionKey → List Cell
shown s k = visible (families_of s k.table) (cells_of s k)

-- what a scan that has come to this row sees of the region that holds it
abbrev pub view_from : Plain → List ℕ → RegionKey → List Cell
view_from s row k = from row (shown s k)

-- why a scan can't pin the region of a row: the table is gone or disabled
abbrev pub pin_refusal : Plain → List ℕ → Option Reply
pin_refusal s t = first (not_found s t ∷ not_enabled s t ∷ [])

-- the region that a scan pins for a row, which is that of no bytes at first
abbrev pub pinned_region : Plain → List ℕ → List ℕ → Option RegionInfo
pinned_region = region_with
