use Rattle.std.specs.Prelude.{ℕ, List}
use Rattle.hb_grammar.specs.Joined.{Joined}
use Rattle.hb_grammar.specs.Marked.{Marked}
use Rattle.hb_names.specs.Encoded.{IsEncoded}
use Rattle.hb_file_names.specs.FileName.{IsFileName}

-- a file name, a dot and the encoded region that was split
abbrev pub IsHalfName : List ℕ → Type 0
IsHalfName = Joined (Marked IsFileName 46) IsEncoded
