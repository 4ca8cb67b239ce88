-- The parts of a printed line.
use Rattle.std.specs.Prelude.{◌≡◌, ℕ, List, [], ◌∷◌, ◌++◌}
use Rattle.std.specs.Fmt.{decimal}
use Rattle.std.specs.List.{flat_map}
use Rattle.shell_print.specs.declared.piece.Piece.{Piece}
use Rattle.shell_print.specs.declared.piece.Piece.TheVariants.{Plain, Shown, Number}
use Rattle.shell_print.specs.Shown.{shown}

-- the text of a part
abbrev pub piece_text : Piece → List ℕ
piece_text (Plain bytes) = bytes.now
piece_text (Shown bytes) = shown bytes.now
piece_text (Number n) = decimal n

-- a text and the line feed that ends its line
abbrev pub line : List ℕ → List ℕ
line text = text ++ 10 ∷ []

-- the line of some parts
abbrev pub line_of : List Piece → List ℕ
line_of pieces = line (flat_map piece_text pieces)

-- a text that begins with another
abbrev pub Begins : List ℕ → List ℕ → Type 0
Begins old new = (more : List ℕ) × (new ≡ old ++ more)
