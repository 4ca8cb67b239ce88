use Rattle.std.specs.Prelude.{◌≡◌, ℕ, ◌<◌, ◌≤◌, ◌%◌, List, [], ◌∷◌, length, ◌⊎◌}
use Rattle.hb_grammar.specs.declared.class.Class.TheVariants.{LowerHex}
use Rattle.hb_grammar.specs.Class.{AllIn}
use Rattle.hb_row_text.specs.declared.grammar.RowGrammar.{RowGrammar}
use Rattle.hb_row_text.specs.declared.grammar.RowGrammar.TheVariants.{Whole, Nothing, Digits}

-- at most so many lower-case digits, and an odd count of them where that is odd
pub record DigitsLeft (left : ℕ) (bytes : List ℕ) : Type 0 where
  pub most : length bytes ≤ left
  pub even : length bytes % 2 ≡ left % 2
  pub each : AllIn LowerHex bytes

-- the byte -, or 2 to 65,534 lower-case digits of an even count
abbrev pub IsRowDigits : List ℕ → Type 0
IsRowDigits bytes = (bytes ≡ 45 ∷ []) ⊎ ((0 < length bytes) × DigitsLeft 65534 bytes)

-- what is left of the text of a row key
abbrev pub RowFrom : RowGrammar → List ℕ → Type 0
RowFrom Whole bytes = IsRowDigits bytes
RowFrom Nothing bytes = bytes ≡ []
RowFrom (Digits left) bytes = DigitsLeft left bytes
