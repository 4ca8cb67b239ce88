use Rattle.std.specs.Prelude.{ℕ, List, ◌∷◌, ◌++◌}
use Rattle.hb_grammar.specs.Joined.{Joined}
use Rattle.hb_grammar.specs.Marked.{Marked}
use Rattle.hb_names.specs.Encoded.{IsEncoded}
use Rattle.hb_names.specs.TableName.{IsTableName}

-- the name of a back reference: the encoded region in which a link stands, a dot, and its table (HBase
-- HFileLink); 46 is the dot
abbrev pub IsBackRef : List ℕ → Type 0
IsBackRef = Joined (Marked IsEncoded 46) IsTableName

-- a back reference as a text
abbrev pub back_text : List ℕ → List ℕ → List ℕ
back_text region table = region ++ 46 ∷ table
