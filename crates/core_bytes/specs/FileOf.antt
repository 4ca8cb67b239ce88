-- What bytes are a file of a recipe, or of an entry.
use Rattle.std.specs.Prelude.{◌≡◌, ℕ, List}
use Rattle.hb_cell.specs.declared.cell.Cell.{Cell}
use Rattle.commit_list.specs.declared.region_list.RegionList.{RegionList}
use Rattle.commit_list.specs.RegionList.{IsRegionList, region_list_text}
use Rattle.hfile_form.specs.File.{IsHFile}
use Rattle.region_set.specs.declared.region_set.RegionSet.{RegionSet}
use Rattle.region_set.specs.RegionSet.{IsRegionSet, region_set_text}
use Rattle.snapshot_records.specs.Reference.{IsReference}
use Rattle.core_model.specs.declared.entry.Entry.{Entry}
use Rattle.core_model.specs.declared.entry.Entry.TheVariants.{Own, Link, Half}
use Rattle.core_model.specs.declared.recipe.Recipe.{Recipe}
use Rattle.core_model.specs.declared.recipe.Recipe.TheVariants as recipes

-- the bytes are the file of this store list, of this region set of a table
pub record IsListFileOf (bytes : List ℕ) (list : RegionList) : Type 0 where
  pub lawful : IsRegionList list
  pub text : bytes ≡ region_list_text list

pub record IsSetFileOf (table bytes : List ℕ) (set : RegionSet) : Type 0 where
  pub lawful : IsRegionSet table set
  pub text : bytes ≡ region_set_text set

-- a file of a recipe with these cells: an HFile of them, or a list or a set
abbrev pub IsFileOf : Recipe → List Cell → List ℕ → Type 0
IsFileOf (recipes.Frozen region family) cells bytes = IsHFile bytes cells
IsFileOf (recipes.Merge region inputs major) cells bytes = IsHFile bytes cells
IsFileOf (recipes.Piece source from to) cells bytes = IsHFile bytes cells
IsFileOf (recipes.List region list) cells bytes = IsListFileOf bytes list
IsFileOf (recipes.Set table set) cells bytes = IsSetFileOf table bytes set

-- recipes that give cells
abbrev pub GivesCells : Recipe → Type 0
GivesCells (recipes.List region list) = ⊥
GivesCells (recipes.Set table set) = ⊥
GivesCells _ = Unit {0}

-- the file of a half says its row and its side
abbrev pub IsPointer : Entry → List ℕ → Type 0
IsPointer (Own base) bytes = Unit {0}
IsPointer (Link base) bytes = Unit {0}
IsPointer (Half base linked parent row top) bytes = IsReference bytes (record { row = row; top = top })
