use Rattle.std.specs.Prelude.{ℕ, List, ◌∷◌, ◌++◌}
use Rattle.hb_grammar.specs.Joined.{Joined}
use Rattle.hb_grammar.specs.Marked.{Marked}
use Rattle.hb_grammar.specs.Either.{EitherOf}
use Rattle.hb_names.specs.Encoded.{IsEncoded}
use Rattle.hb_file_names.specs.HalfName.{IsHalfName}
use Rattle.hb_file_names.specs.LinkName.{IsLinkName}

-- the name of a reference to one half of a file, after a split: a file name or a link's name, a dot, and the
-- encoded region that was split (HBase Reference); 46 is the dot
abbrev pub IsRefName : List ℕ → Type 0
IsRefName = EitherOf IsHalfName (Joined (Marked IsLinkName 46) IsEncoded)

-- a reference's name as a text
abbrev pub ref_text : List ℕ → List ℕ → List ℕ
ref_text name parent = name ++ 46 ∷ parent
