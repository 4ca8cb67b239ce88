-- The families and the rows of a line that creates a table.
use Rattle.std.specs.Prelude.{◌≡◌, ℕ, zero, suc, true, List}
use Rattle.shell_text.specs.declared.argument.Argument.{Argument}
use Rattle.shell_text.specs.Text.{IsText}
use Rattle.shell_line.specs.Table.{row}
use Rattle.shell_value.specs.Quotes.{is_listed, rest_of, text_of}

-- the texts that stand behind commas, up to so many, are an argument's
unfoldable pub AreTexts : Argument → ℕ → List ℕ → Type 0
AreTexts argument zero bytes = Unit {0}
AreTexts argument (suc more) bytes = is_listed bytes ≡ true → IsText argument (text_of bytes) × AreTexts argument more (rest_of bytes)

-- the first text and those behind it are rows
pub record HasRows (bytes : List ℕ) : Type 0 where
  pub first : IsText row (text_of bytes)
  pub more : AreTexts row 998 (rest_of bytes)
