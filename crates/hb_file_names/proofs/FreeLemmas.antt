use Rattle.std.proofs.Common.{◌≡◌, ℕ, List, [], false, eqb, codes, arith, refl}
use Rattle.hb_grammar.specs.declared.class.Class.TheVariants.{LowerHex}
use Rattle.hb_grammar.specs.Class.{has, is_digit}
use Rattle.hb_grammar.specs.Run.{IsExactly}
use Rattle.hb_grammar.specs.Numeral.{IsNumeral}
use Rattle.hb_grammar.specs.Joined.{Joined}
use Rattle.hb_grammar.specs.Marked.{Marked, Avoids}
use Rattle.hb_grammar.proofs.AvoidsLemmas.{Lacks, Free, Avoids-Free, Free-IsExactly, Free-Joined, Free-EitherOf, Free-text, Free-Marked}
use Rattle.hb_grammar.proofs.NumeralLemmas.{Free-IsNumeral, Avoids-IsNumeral}
use Rattle.hb_names.specs.Encoded.{IsEncoded}
use Rattle.hb_names.specs.TableName.{IsTableName}
use Rattle.hb_names.proofs.FreeLemmas.{Free-IsTableName, Free-IsEncoded}
use Rattle.hb_file_names.specs.FileName.{IsSeqSuffix, IsSuffix, IsFileName}

-- no number has _
pub Avoids-seq : Avoids (IsNumeral 0 9_223_372_036_854_775_807) 95
Avoids-seq = Avoids-IsNumeral 0 9_223_372_036_854_775_807 95 (omega arith) refl

-- no file name has a byte that is no lower-case digit and stands in no suffix
pub Free-IsFileName : (mark : ℕ) → has LowerHex mark ≡ false → is_digit mark ≡ false → Lacks mark (codes "_SeqId_") → eqb 95 mark ≡ false → Free IsFileName mark
Free-IsFileName mark outside no_digit text other =
    let word : List ℕ = codes "_SeqId_" in
    let number : List ℕ → Type 0 = IsNumeral 0 9_223_372_036_854_775_807 in
    let digits = Free-IsExactly LowerHex 16 mark outside in
    let seq : Free IsSeqSuffix mark = Free-Joined (λ bytes. bytes ≡ word) (Marked number 95) mark (Free-text word mark text)
    (Free-Marked number 95 mark (Free-IsNumeral 0 9_223_372_036_854_775_807 mark (omega arith) no_digit) other) in
    let suffix : Free IsSuffix mark = Free-EitherOf (λ bytes. bytes ≡ []) IsSeqSuffix mark (Free-text [] mark tt) seq in
    Free-Joined (IsExactly LowerHex 16) (Joined (IsExactly LowerHex 16) IsSuffix) mark digits (Free-Joined (IsExactly LowerHex 16) IsSuffix mark digits suffix)

-- so it has no dot
pub Free-IsFileName_dot : Free IsFileName 46
unfolding has
Free-IsFileName_dot = Free-IsFileName 46 refl refl (refl, (refl, (refl, (refl, (refl, (refl, (refl, tt))))))) refl

-- and no =
pub Free-IsFileName_equals : Free IsFileName 61
unfolding has
Free-IsFileName_equals = Free-IsFileName 61 refl refl (refl, (refl, (refl, (refl, (refl, (refl, (refl, tt))))))) refl

-- it avoids the dot
pub Avoids-IsFileName : Avoids IsFileName 46
Avoids-IsFileName = Avoids-Free IsFileName 46 Free-IsFileName_dot

-- no table's name has =
pub Free-IsTableName_equals : Free IsTableName 61
unfolding has
Free-IsTableName_equals = Free-IsTableName 61 refl refl

-- it avoids =
pub Avoids-IsTableName : Avoids IsTableName 61
Avoids-IsTableName = Avoids-Free IsTableName 61 Free-IsTableName_equals

-- no encoded name has -
pub Free-IsEncoded_dash : Free IsEncoded 45
unfolding has
Free-IsEncoded_dash = Free-IsEncoded 45 refl

-- nor a dot
pub Free-IsEncoded_dot : Free IsEncoded 46
unfolding has
Free-IsEncoded_dot = Free-IsEncoded 46 refl

-- nor =
pub Free-IsEncoded_equals : Free IsEncoded 61
unfolding has
Free-IsEncoded_equals = Free-IsEncoded 61 refl

-- it avoids -
pub Avoids-IsEncoded_dash : Avoids IsEncoded 45
Avoids-IsEncoded_dash = Avoids-Free IsEncoded 45 Free-IsEncoded_dash

-- and the dot
pub Avoids-IsEncoded_dot : Avoids IsEncoded 46
Avoids-IsEncoded_dot = Avoids-Free IsEncoded 46 Free-IsEncoded_dot
