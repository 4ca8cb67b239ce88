use Rattle.std.specs.Prelude.{ℕ, List}
use Rattle.hb_grammar.specs.Joined.{Joined}
use Rattle.hb_grammar.specs.Marked.{Marked}
use Rattle.hb_names.specs.TableName.{IsTableName}
use Rattle.hb_names.specs.Encoded.{IsEncoded}
use Rattle.hb_file_names.specs.FileName.{IsFileName}

-- a link's name: a table's name, =, an encoded region, - and a file name (HBase HFileLink); 61 is = and 45 is -
abbrev pub IsLinkName : List ℕ → Type 0
IsLinkName = Joined (Marked IsTableName 61) (Joined (Marked IsEncoded 45) IsFileName)
