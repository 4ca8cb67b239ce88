use Rattle.std.specs.Prelude.{◌≡◌, ℕ, List, [], codes}
use Rattle.hb_grammar.specs.declared.class.Class.TheVariants.{LowerHex}
use Rattle.hb_grammar.specs.Run.{IsExactly}
use Rattle.hb_grammar.specs.Numeral.{IsNumeral}
use Rattle.hb_grammar.specs.Joined.{Joined}
use Rattle.hb_grammar.specs.Marked.{Marked}
use Rattle.hb_grammar.specs.Either.{EitherOf}
use Rattle.hb_file_names.specs.declared.file_parts.TheConstants.{MAX_SEQ}

-- _SeqId_, a decimal number up to 2 ^ 63 - 1, and _, whose code is 95
abbrev pub IsSeqSuffix : List ℕ → Type 0
IsSeqSuffix = Joined (λ bytes. bytes ≡ codes "_SeqId_") (Marked (IsNumeral 0 MAX_SEQ) 95)

-- that, or nothing
abbrev pub IsSuffix : List ℕ → Type 0
IsSuffix = EitherOf (λ bytes. bytes ≡ []) IsSeqSuffix

-- a file name: 16 lower-case hexadecimal digits of the epoch, 16 of the counter, and a suffix
abbrev pub IsFileName : List ℕ → Type 0
IsFileName = Joined (IsExactly LowerHex 16) (Joined (IsExactly LowerHex 16) IsSuffix)
