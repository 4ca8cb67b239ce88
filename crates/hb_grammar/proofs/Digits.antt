use Rattle.std.proofs.Common.{◌≡◌, ℕ, ◌<◌, ◌≤◌, ◌+◌, ◌*◌, ◌-◌, List, [], ◌∷◌, Bool, true}
use Rattle.hb_grammar.specs.Class.{is_digit}

-- the digits behind a number's first ones, which stand for value: nothing stands behind a leading zero, and the
-- number is at most max; 48 is the digit 0
abbrev pub DigitsAfter : ℕ → ℕ → List ℕ → Type 0
DigitsAfter max value [] = value ≤ max
DigitsAfter max value (digit ∷ digits) = (0 < value) × (is_digit digit ≡ true) × DigitsAfter max (value * 10 + (digit - 48)) digits

-- the digits of a number at most max, a digit at a time, and not 0 where it is to be positive
abbrev pub AreDigits : Bool → ℕ → List ℕ → Type 0
AreDigits positive max [] = ⊥
AreDigits positive max (digit ∷ digits) = (is_digit digit ≡ true) × (positive ≡ true → 0 < digit - 48) × DigitsAfter max (digit - 48) digits
