use Rattle.std.specs.Prelude.{ℕ, List, ◌∷◌, ◌++◌}
use Rattle.std.specs.Fmt.{decimal}
use Rattle.hex.specs.Hex.{encode_lower}
use Rattle.md5.specs.Md5.{md5}
use Rattle.hb_names.specs.declared.region_name.RegionName.{RegionName}

-- a region's name as a text: table, start key and region id, with a comma between each two
abbrev pub region_text : RegionName → List ℕ
region_text name = name.table ++ 44 ∷ name.start ++ 44 ∷ decimal name.id

-- the encoded name of a region: the MD5 (RFC 1321) of its text, in hexadecimal digits
abbrev pub encoded_of : RegionName → List ℕ
encoded_of name = encode_lower (md5 (region_text name))
