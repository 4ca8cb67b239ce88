use Rattle.std.specs.Prelude.{◌≡◌, ℕ, ◌≤◌, ◌+◌, List, [], ◌∷◌, length, Bool, true}
use Rattle.hb_grammar.specs.Class.{AllIn}
use Rattle.hb_grammar.specs.declared.class.Class.TheVariants.{Component}
use Rattle.hb_names.specs.declared.component.TheConstants.{MAX_COMPONENT}

-- dots alone
abbrev pub AllDots : List ℕ → Type 0
AllDots [] = Unit {0}
AllDots (byte ∷ bytes) = (byte ≡ 46) × AllDots bytes

-- what may stand behind so many bytes of a component, of which all may be dots
pub record ComponentAfter (read : ℕ) (dots : Bool) (bytes : List ℕ) : Type 0 where
  pub least : 1 ≤ read + length bytes
  pub most : read + length bytes ≤ MAX_COMPONENT
  pub each : AllIn Component bytes
  pub not_dots : dots ≡ true → AllDots bytes → 3 ≤ read + length bytes
