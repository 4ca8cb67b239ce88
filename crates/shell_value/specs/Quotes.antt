-- The texts of a line's arguments, and the numbers outside of them.
use Rattle.std.specs.Prelude.{◌≡◌, ◌++◌, ℕ, zero, suc, ◌+◌, ◌*◌, ◌-◌, Bool, cond, List, [], ◌∷◌, Option, Some, None, unwrap_or, filter}
use Rattle.hb_grammar.specs.Class.{is_digit}
use Rattle.shell_text.specs.Text.{meaning}
use Rattle.shell_text.specs.declared.text.Place.{Place}
use Rattle.shell_text.specs.declared.text.Place.TheVariants.{Between}
use Rattle.shell_value.specs.Cut.{before, behind, has_mark}

-- the text in the first quotes, as it is written; 39 is the quote
abbrev pub text_of : List ℕ → List ℕ
text_of bytes = before 39 (behind 39 bytes)

-- what stands behind that text and its quotes
abbrev pub rest_of : List ℕ → List ℕ
rest_of bytes = behind 39 (behind 39 bytes)

-- what a text means
abbrev pub meant : List ℕ → List ℕ
meant text = unwrap_or (meaning Between text) []

-- what the text in the first quotes means
abbrev pub value_of : List ℕ → List ℕ
value_of bytes = meant (text_of bytes)

-- the number that digits make behind those of a number; 48 is the digit 0
abbrev pub number_after : Option ℕ → List ℕ → Option ℕ
number_after number [] = number
number_after number (digit ∷ digits) = number_after (Some (unwrap_or number 0 * 10 + (digit - 48))) digits

-- the number whose digits stand among some bytes, if there are any
abbrev pub number_of : List ℕ → Option ℕ
number_of bytes = number_after None (filter is_digit bytes)

-- whether a comma, whose code is 44, stands before the first quote
abbrev pub is_listed : List ℕ → Bool
is_listed bytes = has_mark 44 (before 39 bytes)

-- what the texts mean that stand behind commas, up to so many
unfoldable pub values_of : ℕ → List ℕ → List (List ℕ)
values_of zero bytes = []
values_of (suc more) bytes = cond (is_listed bytes) (value_of bytes ∷ values_of more (rest_of bytes)) []

-- what stands behind them
unfoldable pub behind_values : ℕ → List ℕ → List ℕ
behind_values zero bytes = bytes
behind_values (suc more) bytes = cond (is_listed bytes) (behind_values more (rest_of bytes)) bytes

-- A byte of a text, with so much of an escape before it, was added: what was read and what is left mean together the same
-- as before.
abbrev pub AddsByte : List ℕ → Place → ℕ → List ℕ → Place → Type 0
AddsByte old place byte new next =
    (rest all : List ℕ) → meaning place (byte ∷ rest) ≡ Some all → (more : List ℕ) × (meaning next rest ≡ Some more) × (old ++ all ≡ new ++ more)
