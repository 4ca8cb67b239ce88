-- The steps by which the cells that a read shows are found.
use Rattle.std.specs.Prelude.{ℕ, ◌&&◌, nat_lt, count_by, Bool, not, List, filter}
use Rattle.std.specs.List.{list_any}
use Rattle.hb_cell.specs.declared.cell.Cell.{Cell}
use Rattle.hb_cell.specs.Hiding.{hides}
use Rattle.cell_sight.specs.Visible.{is_put, is_newer, same_version, versions_of}

-- the cells of other columns or timestamps than one's
abbrev pub others : Cell → List Cell → List Cell
others first cells = filter (λ d. not (same_version first d)) cells

-- a put that no marker of a list hides
unfoldable pub is_unhidden_in : List Cell → Cell → Bool
is_unhidden_in cells c = is_put c.kind && not (list_any (λ marker. hides marker c) cells)

-- one of its column's newest cells in a list, as many as its family has versions
unfoldable pub is_newest_in : List (List ℕ × ℕ) → List Cell → Cell → Bool
is_newest_in families cells c = nat_lt (count_by (λ d. is_newer d c) cells) (versions_of families c.family)
