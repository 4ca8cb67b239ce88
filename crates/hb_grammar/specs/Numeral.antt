use Rattle.std.specs.Prelude.{◌≡◌, ℕ, ◌≤◌, List}
use Rattle.std.specs.Fmt.{decimal}

-- a number from low to max in decimal, which has no leading zero
pub record IsNumeral (low max : ℕ) (bytes : List ℕ) : Type 0 where
  pub number : ℕ
  pub least : low ≤ number
  pub most : number ≤ max
  pub text : bytes ≡ decimal number
