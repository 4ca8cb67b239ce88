use Rattle.std.specs.Prelude.{◌≢◌, ℕ, ◌≤◌, List, length, codes}
use Rattle.hb_grammar.specs.Class.{AllIn}
use Rattle.hb_grammar.specs.declared.class.Class.TheVariants.{Component}
use Rattle.hb_names.specs.declared.component.TheConstants.{MAX_COMPONENT}

-- a component of a place: 1 to 255 letters, digits and _ - . =, and neither . nor ..
pub record IsComponent (bytes : List ℕ) : Type 0 where
  pub least : 1 ≤ length bytes
  pub most : length bytes ≤ MAX_COMPONENT
  pub each : AllIn Component bytes
  pub not_dot : bytes ≢ codes "."
  pub not_two_dots : bytes ≢ codes ".."
