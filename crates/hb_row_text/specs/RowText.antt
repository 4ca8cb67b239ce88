use Rattle.std.specs.Prelude.{◌≡◌, ℕ, ◌≤◌, List, [], ◌∷◌, length}
use Rattle.hex.specs.Hex.{IsBytes, encode_lower}
use Rattle.hb_row_text.specs.declared.row_text.TheConstants.{MAX_ROW}

-- a row key as text: its bytes in lower-case hexadecimal, and - where there is none; 45 is -
abbrev pub row_text : List ℕ → List ℕ
row_text [] = 45 ∷ []
row_text (byte ∷ bytes) = encode_lower (byte ∷ bytes)

-- the bytes are the text of a row key
pub record IsRowText (bytes : List ℕ) : Type 0 where
  pub row : List ℕ
  pub small : IsBytes row
  pub limit : length row ≤ MAX_ROW
  pub whole : bytes ≡ row_text row
