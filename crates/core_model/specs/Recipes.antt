-- The cells that a recipe gives its file.
use Rattle.std.specs.Prelude.{◌≡◌, ℕ, Bool, true, false, not, ◌&&◌, List, [], take, Option, unwrap_or}
use Rattle.std.specs.List.{filter}
use Rattle.hb_cell.specs.declared.cell.Cell.{Cell}
use Rattle.core_model.specs.Site.{Staged, site_text}
use Rattle.plain_model.specs.declared.region_key.RegionKey.{RegionKey}
use Rattle.hb_cell.specs.Order.{same_bytes, is_below}
use Rattle.plain_model.specs.Found.{families_of}
use Rattle.plain_model.specs.Plain.{Plain}
use Rattle.plain_model.specs.Rows.{is_before_end}
use Rattle.cell_sight.specs.Same.{sorted}
use Rattle.cell_sight.specs.Visible.{visible}
use Rattle.core_model.specs.declared.recipe.Recipe.{Recipe}
use Rattle.core_model.specs.declared.recipe.Recipe.TheVariants as recipes
use Rattle.core_model.specs.State.{StagedCells}
use Rattle.core_model.specs.Entries.{Made, cells_in}

-- the frozen cells of a region, and those of a family
abbrev pub frozen_cells : Plain → RegionKey → List Cell
frozen_cells p r = take (p.frozen r) (p.mem r)

abbrev pub of_family : List ℕ → List Cell → List Cell
of_family family cells = filter (λ c. same_bytes c.family family) cells

-- the cells of a merge under the families of its table
abbrev pub merged : Bool → List (List ℕ × ℕ) → List Cell → List Cell
merged true families cells = visible families cells
merged false families cells = sorted cells

-- the cells of a staged file, as the opening found it
abbrev pub staged_cells : StagedCells → List ℕ → List ℕ → List ℕ → List Cell
staged_cells staged folder family name = unwrap_or (staged folder family name) []

-- those of rows from one to another
abbrev pub between : List ℕ → Option (List ℕ) → List Cell → List Cell
between start end cells = filter (λ c. not (is_below c.row start) && is_before_end c.row end) cells

-- the cells that a file of a recipe has now
pub record IsPiece (staged : StagedCells) (source start : List ℕ) (end : Option (List ℕ)) (cells : List Cell) : Type 0 where
  pub folder : List ℕ
  pub family : List ℕ
  pub name : List ℕ
  pub place : site_text (Staged folder family name) ≡ source
  pub same : cells ≡ between start end (staged_cells staged folder family name)

abbrev pub HasCells : Recipe → Plain → Made → StagedCells → List Cell → Type 0
HasCells (recipes.Frozen r family) p made staged cells = cells ≡ sorted (of_family family (frozen_cells p r))
HasCells (recipes.Merge r inputs major) p made staged cells = cells ≡ merged major (families_of p r.table) (cells_in made inputs)
HasCells (recipes.Piece source start end) p made staged cells = IsPiece staged source start end cells
HasCells (recipes.List r list) p made staged cells = cells ≡ []
HasCells (recipes.Set table set) p made staged cells = cells ≡ []
