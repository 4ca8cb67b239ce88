use Rattle.std.specs.Prelude.{◌≡◌, ℕ, List, [], ◌++◌, codes, Bool, None, Result, Ok, Err, drop}
use Rattle.std.specs.List.{flat_map}
use Rattle.hb_grammar.specs.Rows.{RowsFrom}
use Rattle.hb_grammar.specs.TextOf.{IsTextOf}
use Rattle.hb_records.specs.declared.region_info.RegionInfo.{RegionInfo}
use Rattle.commit_line.specs.declared.error.BadText.{BadText}
use Rattle.commit_line.specs.declared.error.ListError.{ListError}
use Rattle.commit_line.specs.Line.{ended}
use Rattle.commit_line.specs.ListError.{IsFaultAt, IsRefusalAt}
use Rattle.region_set.specs.declared.set_state.SetState.{SetState}
use Rattle.region_set.specs.declared.set_state.SetState.TheVariants.{Dropped}
use Rattle.region_set.specs.FamilyLine.{IsFamilyBehind, family_text}
use Rattle.region_set.specs.RegionLine.{IsRegionBehind, region_text}

-- the last line of a file
abbrev pub IsEnd : List ℕ → Type 0
IsEnd bytes = bytes ≡ ended (codes "end")

-- the last line stands from a place on, to the file's end; or why it doesn't
abbrev pub IsEndRead : List ℕ → ℕ → Result Unit BadText → Type 0
IsEndRead bytes at (Ok _) = IsEnd (drop at bytes)
IsEndRead bytes at (Err bad) = IsFaultAt IsEnd bytes at bad.0

-- the families and regions that a set of this table and state can have
pub record IsBody (table : List ℕ) (state : SetState) (body : List (List ℕ × ℕ) × List (RegionInfo × Bool)) : Type 0 where
  pub families : RowsFrom IsFamilyBehind None body.0
  pub regions : RowsFrom (IsRegionBehind table) None body.1
  pub no_families : state ≡ Dropped → body.0 ≡ []
  pub no_regions : state ≡ Dropped → body.1 ≡ []

-- the lines of families and regions, and the last one
abbrev pub body_text : List (List ℕ × ℕ) × List (RegionInfo × Bool) → List ℕ
body_text body = flat_map family_text body.0 ++ (flat_map region_text body.1 ++ ended (codes "end"))

-- the families and regions of what stands from a place on, to the file's end; or why there are none
abbrev pub IsBodyRead : List ℕ → SetState → List ℕ → ℕ → Result (List (List ℕ × ℕ) × List (RegionInfo × Bool)) ListError → Type 0
IsBodyRead table state bytes at (Ok body) = IsBody table state body × (drop at bytes ≡ body_text body)
IsBodyRead table state bytes at (Err error) = IsRefusalAt (IsTextOf (IsBody table state) body_text) bytes at error
