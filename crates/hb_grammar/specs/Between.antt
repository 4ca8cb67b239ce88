use Rattle.std.specs.Prelude.{◌≡◌, ℕ, ◌<◌, ◌≤◌, ◌+◌, ◌*◌, ◌-◌, ◌^◌, List, [], ◌∷◌, true, Option, Some, None}
use Rattle.hb_grammar.specs.Class.{is_digit}

-- the digits behind a number's first ones, which stand for value: nothing stands behind a leading zero, and the
-- number is from low to max; 48 is the digit 0
abbrev pub DigitsBetween : ℕ → ℕ → ℕ → List ℕ → Type 0
DigitsBetween low max value [] = (low ≤ value) × (value ≤ max)
DigitsBetween low max value (digit ∷ digits) =
    (0 < value) × (is_digit digit ≡ true) × DigitsBetween low max (value * 10 + (digit - 48)) digits

-- what is left of a number, of which some digits may have been read
abbrev pub BetweenFrom : ℕ → ℕ → Option ℕ → List ℕ → Type 0
BetweenFrom low max None [] = ⊥
BetweenFrom low max None (digit ∷ digits) = (is_digit digit ≡ true) × DigitsBetween low max (digit - 48) digits
BetweenFrom low max (Some value) bytes = DigitsBetween low max value bytes

-- with some count of digits more behind those of value, of which there are none behind a leading zero, a number can
-- be from low to max
pub record Reaches (low max value : ℕ) : Type 0 where
  pub count : ℕ
  pub lone : value ≡ 0 → count ≡ 0
  pub below : value * 10 ^ count ≤ max
  pub above : low < (value + 1) * 10 ^ count

-- it cannot be that no number from low to max begins with the digits that were read
abbrev pub IsOnTheWay : ℕ → ℕ → Option ℕ → Type 0
IsOnTheWay low max value = (v : ℕ) → value ≡ Some v → (Reaches low max v → ⊥) → ⊥
