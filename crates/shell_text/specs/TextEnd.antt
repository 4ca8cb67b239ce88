-- The text of an argument, and other parts of a line, at the front of some bytes.
use Rattle.std.specs.Prelude.{◌≡◌, ℕ, ◌<◌, List, ◌++◌, length, take, get_or}
use Rattle.shell_text.specs.declared.argument.Argument.{Argument}
use Rattle.shell_text.specs.Text.{IsText}

-- the text of an argument stands before this place, and the quote that ends it there; 39 is the quote
pub record IsTextEnd (argument : Argument) (bytes : List ℕ) (at : ℕ) : Type 0 where
  pub inside : at < length bytes
  pub quote : get_or bytes at 0 ≡ 39
  pub text : IsText argument (take at bytes)

-- a string of the grammar stands at the front of the bytes, and the rest behind it
pub record HasFront (spells : List ℕ → Type 0) (bytes rest : List ℕ) : Type 0 where
  pub front : List ℕ
  pub in_grammar : spells front
  pub whole : bytes ≡ front ++ rest
