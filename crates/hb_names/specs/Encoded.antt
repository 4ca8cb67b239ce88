use Rattle.std.specs.Prelude.{ℕ, List}
use Rattle.hb_grammar.specs.declared.class.Class.TheVariants.{LowerHex}
use Rattle.hb_grammar.specs.Run.{IsExactly}

-- an encoded name: 32 lower-case hexadecimal digits
abbrev pub IsEncoded : List ℕ → Type 0
IsEncoded = IsExactly LowerHex 32
