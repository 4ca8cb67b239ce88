-- The cells that the inputs of a merge give.
use Rattle.std.specs.Prelude.{◌≡◌, ℕ, Bool, true, not, if◌then◌else◌, List, [], ◌∷◌, ◌++◌, map, filter, Option, Some, None}
use Rattle.hb_cell.specs.declared.cell.Cell.{Cell}
use Rattle.hb_cell.specs.Order.{is_below}
use Rattle.cell_sight.specs.Same.{sorted}
use Rattle.cell_merge.specs.declared.input.Input.{Input}

-- whether a half keeps a cell: the top half those from its row on, the bottom half those below it
-- (HBase HalfStoreFileReader)
abbrev pub keeps : Option (List ℕ × Bool) → Cell → Bool
keeps None c = true
keeps (Some half) c = if half.1 then not (is_below c.row half.0) else is_below c.row half.0

-- with the number that replaces its own
abbrev pub numbered : Option ℕ → Cell → Cell
numbered None c = c
numbered (Some n) c = record c { seq = n }

-- the cells that an input gives
abbrev pub cells_of : Input → List Cell
cells_of input = map (numbered input.seq) (filter (keeps input.half) input.cells)

-- those that all inputs give
abbrev pub all_cells : List Input → List Cell
all_cells [] = []
all_cells (input ∷ inputs) = cells_of input ++ all_cells inputs

-- each input stands in key order
abbrev pub IsInOrder : List Input → Type 0
IsInOrder [] = Unit {0}
IsInOrder (input ∷ inputs) = (sorted input.cells ≡ input.cells) × IsInOrder inputs

-- all cells of the inputs in key order, each as often as it stands there
abbrev pub merged : List Input → List Cell
merged inputs = sorted (all_cells inputs)
