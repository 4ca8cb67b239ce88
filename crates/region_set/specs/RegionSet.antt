use Rattle.std.specs.Prelude.{◌≡◌, ℕ, List, [], ◌++◌, codes, None, Result, Ok, Err}
use Rattle.std.specs.List.{flat_map}
use Rattle.hb_grammar.specs.TextOf.{IsTextOf}
use Rattle.hb_grammar.specs.Rows.{RowsFrom}
use Rattle.commit_line.specs.declared.error.ListError.{ListError}
use Rattle.commit_line.specs.declared.error.ListError.TheVariants.{BadList, NoMemory}
use Rattle.commit_line.specs.Line.{ended, number_line}
use Rattle.commit_line.specs.Numbered.{IsListNumber}
use Rattle.region_set.specs.SetState.{state_word}
use Rattle.region_set.specs.declared.set_state.SetState.TheVariants.{Dropped}
use Rattle.region_set.specs.declared.region_set.RegionSet.{RegionSet}
use Rattle.region_set.specs.FamilyLine.{IsFamilyBehind, family_text}
use Rattle.region_set.specs.RegionLine.{IsRegionBehind, region_text}

-- a region set that a file of this table can have
pub record IsRegionSet (table : List ℕ) (set : RegionSet) : Type 0 where
  pub number : IsListNumber set.number
  pub of_table : set.schema.table ≡ table
  pub families : RowsFrom IsFamilyBehind None set.schema.families
  pub regions : RowsFrom (IsRegionBehind table) None set.regions
  pub no_families : set.state ≡ Dropped → set.schema.families ≡ []
  pub no_regions : set.state ≡ Dropped → set.regions ≡ []

-- the lines of a region set
abbrev pub region_set_text : RegionSet → List ℕ
region_set_text set =
    number_line (codes "set") set.number ++
    (ended (state_word set.state) ++ (flat_map family_text set.schema.families ++ (flat_map region_text set.regions ++ ended (codes "end"))))

-- the bytes of a region set's file
abbrev pub IsSetFile : List ℕ → List ℕ → Type 0
IsSetFile table = IsTextOf (IsRegionSet table) region_set_text

-- this set and no other, unless memory ran out
abbrev pub GivesSet : Result RegionSet ListError → RegionSet → Type 0
GivesSet (Ok found) set = found ≡ set
GivesSet (Err NoMemory) set = Unit {0}
GivesSet (Err (BadList _)) set = ⊥
