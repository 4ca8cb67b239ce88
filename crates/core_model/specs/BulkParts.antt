-- Which part of which staged file a load brings to a region.
use Rattle.std.specs.Prelude.{◌≡◌, ℕ, Bool, true, false, List, Option, Some, None}
use Rattle.std.specs.List.{filter, list_any, list_all}
use Rattle.hb_cell.specs.declared.cell.Cell.{Cell}
use Rattle.hb_layout.specs.declared.base.Base.{Base}
use Rattle.core_model.specs.Site.{Staged, site_text}
use Rattle.hb_records.specs.declared.region_info.RegionInfo.{RegionInfo}
use Rattle.plain_model.specs.Found.{open_in}
use Rattle.plain_model.specs.Keys.{key_of}
use Rattle.plain_model.specs.Rows.{holds_row}
use Rattle.core_model.specs.declared.recipe.Recipe.TheVariants as recipes
use Rattle.core_model.specs.declared.targets.MoveFrom.{MoveFrom}
use Rattle.core_model.specs.declared.targets.MoveFrom.TheVariants as moves
use Rattle.cell_sight.specs.Member.{Member}
use Rattle.core_model.specs.Keys.{home}
use Rattle.core_model.specs.Recipes.{staged_cells}
use Rattle.core_model.specs.State.{Parts, StagedCells, Written}

-- whether a cell of a staged file goes to a region, and whether all do
abbrev pub has_part : StagedCells → List ℕ → RegionInfo → List ℕ × List ℕ → Bool
has_part staged folder r f = list_any (λ (c : Cell). holds_row r c.row) (staged_cells staged folder f.0 f.1)

abbrev pub is_whole : StagedCells → List ℕ → RegionInfo → List ℕ × List ℕ → Bool
is_whole staged folder r f = list_all (λ (c : Cell). holds_row r c.row) (staged_cells staged folder f.0 f.1)

-- the staged files of which a region gets a part, in their order
abbrev pub parts_of : StagedCells → List ℕ → RegionInfo → List (List ℕ × List ℕ) → List (List ℕ × List ℕ)
parts_of staged folder r files = filter (has_part staged folder r) files

-- a file that was placed for a part came from it: moved whole, or cut at the region's bounds
abbrev pub ComesFrom : MoveFrom → Bool → List ℕ → RegionInfo → List ℕ × List ℕ → (List ℕ → Option Written) → Type 0
ComesFrom (moves.StagedBulk folder' name) true folder r f written = (folder' ≡ folder) × (name ≡ f.1)
ComesFrom (moves.WrittenBulk name) false folder r f written =
    (w : Written) × (written name ≡ Some w) × (w.recipe ≡ recipes.Piece (site_text (Staged folder f.0 f.1)) r.start r.end)
ComesFrom _ whole folder r f written = ⊥

-- the actor placed this base for the region's part of a file
pub record IsPartFile (a : ℕ) (folder : List ℕ) (r : RegionInfo) (f : List ℕ × List ℕ) (b : Base) (s : Parts) : Type 0 where
  pub region : home b ≡ key_of r
  pub family : b.family ≡ f.0
  pub source : MoveFrom
  pub placed : Member (record { base = b; from = source }) (s.placed a)
  pub comes : ComesFrom source (is_whole s.staged folder r f) folder r f s.written

-- each part of the file has been placed and listed
pub record AllCommitted (a : ℕ) (table folder : List ℕ) (f : List ℕ × List ℕ) (s : Parts) : Type 0 where
  pub at : (r : RegionInfo) → Member r (open_in s.plain table) → has_part s.staged folder r f ≡ true
      → (b : Base) × IsPartFile a folder r f b s × (s.waiting b ≡ None)
