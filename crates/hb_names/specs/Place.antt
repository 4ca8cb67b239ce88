use Rattle.std.specs.Prelude.{ℕ, ◌≤◌, ◌-◌, List, length}
use Rattle.std.specs.List.{AllByRecursion}
use Rattle.hb_grammar.specs.Separated.{SeparatedOf}
use Rattle.hb_names.specs.Component.{IsComponent}
use Rattle.hb_names.specs.declared.place.TheConstants.{MAX_COMPONENTS}

-- a place: 1 to 16 components with / between them, whose code is 47
abbrev pub IsPlace : List ℕ → Type 0
IsPlace = SeparatedOf IsComponent 47 (MAX_COMPONENTS - 1)

-- the components of a place: 1 to 16
pub record AreComponents (components : List (List ℕ)) : Type 0 where
  pub least : 1 ≤ length components
  pub most : length components ≤ MAX_COMPONENTS
  pub each : AllByRecursion IsComponent components
