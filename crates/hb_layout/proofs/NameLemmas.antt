use Rattle.std.proofs.Common.{◌≡◌, ℕ, ◌≤◌, ◌<◌, List, [], ◌++◌, length, refl, ap, arith, codes}
use Rattle.std.specs.Fmt.{decimal}
use Rattle.std.proofs.lemmas.List.{length-append}
use Rattle.hb_grammar.specs.declared.class.Class.TheVariants.{LowerHex, Name, NameStart, FamilyStart}
use Rattle.hb_grammar.specs.Class.{has}
use Rattle.hb_grammar.specs.Run.{IsRun, IsExactly}
use Rattle.hb_grammar.specs.Numeral.{IsNumeral}
use Rattle.hb_grammar.specs.Joined.{Joined}
use Rattle.hb_grammar.specs.Marked.{Marked}
use Rattle.hb_names.specs.Component.{IsComponent}
use Rattle.hb_names.specs.TableName.{IsTableName}
use Rattle.hb_names.specs.FamilyName.{IsFamilyName}
use Rattle.hb_names.specs.Encoded.{IsEncoded}
use Rattle.hb_file_names.specs.FileName.{IsSeqSuffix, IsSuffix, IsFileName}
use Rattle.hb_file_names.specs.FileParts.{sixteen_digits}
use Rattle.hb_file_names.specs.LinkName.{IsLinkName}
use Rattle.hb_file_names.specs.HalfName.{IsHalfName}
use Rattle.hb_file_names.specs.RefName.{IsRefName}
use Rattle.hb_file_names.specs.BackRef.{IsBackRef}
use Rattle.hb_file_names.proofs.DigitsLemmas.{IsExactly-sixteen_digits}
use Rattle.hb_layout.proofs.KindLemmas.{IsShort, HasMore, AllIn-append, IsShort-IsRun, IsShort-IsExactly, IsShort-text, IsShort-IsNumeral, IsShort-Joined, IsShort-Marked, IsShort-EitherOf, HasMore-IsExactly, HasMore-Joined, HasMore-Marked, HasMore-EitherOf, HasMore-IsNumeral, IsComponent-IsShort}

-- a table's name has at most 100 bytes
IsShort-IsTableName : IsShort IsTableName 100
IsShort-IsTableName = IsShort-Joined (IsExactly NameStart 1) (IsRun Name 0 99) 1 99 (IsShort-IsExactly NameStart 1) (IsShort-IsRun Name 0 99)

-- and is not dots alone
HasMore-IsTableName : HasMore IsTableName
unfolding has
HasMore-IsTableName = HasMore-Joined (IsExactly NameStart 1) (IsRun Name 0 99) (HasMore-IsExactly NameStart 1 refl (omega arith))

-- it is a component
pub IsComponent-IsTableName : (bytes : List ℕ) → IsTableName bytes → IsComponent bytes
IsComponent-IsTableName = IsComponent-IsShort IsTableName 100 (omega arith) IsShort-IsTableName HasMore-IsTableName

-- so is a family's name
pub IsComponent-IsFamilyName : (bytes : List ℕ) → IsFamilyName bytes → IsComponent bytes
unfolding has
IsComponent-IsFamilyName = IsComponent-IsShort IsFamilyName 127 (omega arith)
    (IsShort-Joined (IsExactly FamilyStart 1) (IsRun Name 0 126) 1 126 (IsShort-IsExactly FamilyStart 1) (IsShort-IsRun Name 0 126))
    (HasMore-Joined (IsExactly FamilyStart 1) (IsRun Name 0 126) (HasMore-IsExactly FamilyStart 1 refl (omega arith)))

-- hexadecimal digits are not dots alone
HasMore-digits : (count : ℕ) → 0 < count → HasMore (IsExactly LowerHex count)
unfolding has
HasMore-digits count some = HasMore-IsExactly LowerHex count refl some

-- an encoded name is a component
pub IsComponent-IsEncoded : (bytes : List ℕ) → IsEncoded bytes → IsComponent bytes
IsComponent-IsEncoded = IsComponent-IsShort IsEncoded 32 (omega arith) (IsShort-IsExactly LowerHex 32) (HasMore-digits 32 (omega arith))

-- so are the digits of an epoch
pub IsComponent-sixteen_digits : (number : ℕ) → IsComponent (sixteen_digits number)
IsComponent-sixteen_digits number = IsComponent-IsShort (IsExactly LowerHex 16) 16 (omega arith) (IsShort-IsExactly LowerHex 16) (HasMore-digits 16 (omega arith))
    (sixteen_digits number) (IsExactly-sixteen_digits number)

-- and the number of a list
pub IsComponent-decimal : (number : ℕ) → number ≤ 9_223_372_036_854_775_807 → IsComponent (decimal number)
IsComponent-decimal number within = IsComponent-IsShort (IsNumeral 0 9_223_372_036_854_775_807) 19 (omega arith)
    (IsShort-IsNumeral 0) (HasMore-IsNumeral 0 9_223_372_036_854_775_807 (omega arith)) (decimal number)
    (record { number = number; least = omega arith; most = within; text = refl })

-- a suffix has at most 27 bytes
IsShort-IsSuffix : IsShort IsSuffix 27
unfolding has
IsShort-IsSuffix =
    let word : List ℕ = codes "_SeqId_" in
    let marked = IsShort-Marked (IsNumeral 0 9_223_372_036_854_775_807) 95 19 refl (IsShort-IsNumeral 0) in
    let text = IsShort-text word (refl, (refl, (refl, (refl, (refl, (refl, (refl, tt))))))) in
    IsShort-EitherOf (λ bytes. bytes ≡ []) IsSeqSuffix 0 27 27 (omega arith) (omega arith) (IsShort-text [] tt)
    (IsShort-Joined (λ bytes. bytes ≡ word) (Marked (IsNumeral 0 9_223_372_036_854_775_807) 95) 7 20 text marked)

-- a file name has at most 59
IsShort-IsFileName : IsShort IsFileName 59
IsShort-IsFileName = IsShort-Joined (IsExactly LowerHex 16) (Joined (IsExactly LowerHex 16) IsSuffix) 16 43 (IsShort-IsExactly LowerHex 16)
    (IsShort-Joined (IsExactly LowerHex 16) IsSuffix 16 27 (IsShort-IsExactly LowerHex 16) IsShort-IsSuffix)

-- and is not dots alone
HasMore-IsFileName : HasMore IsFileName
HasMore-IsFileName = HasMore-Joined (IsExactly LowerHex 16) (Joined (IsExactly LowerHex 16) IsSuffix) (HasMore-digits 16 (omega arith))

-- it is a component
pub IsComponent-IsFileName : (bytes : List ℕ) → IsFileName bytes → IsComponent bytes
IsComponent-IsFileName = IsComponent-IsShort IsFileName 59 (omega arith) IsShort-IsFileName HasMore-IsFileName

-- a link's name has at most 193 bytes
IsShort-IsLinkName : IsShort IsLinkName 193
unfolding has
IsShort-IsLinkName = IsShort-Joined (Marked IsTableName 61) (Joined (Marked IsEncoded 45) IsFileName) 101 92
    (IsShort-Marked IsTableName 61 100 refl IsShort-IsTableName)
    (IsShort-Joined (Marked IsEncoded 45) IsFileName 33 59 (IsShort-Marked IsEncoded 45 32 refl (IsShort-IsExactly LowerHex 32)) IsShort-IsFileName)

-- and is not dots alone
HasMore-IsLinkName : HasMore IsLinkName
HasMore-IsLinkName = HasMore-Joined (Marked IsTableName 61) (Joined (Marked IsEncoded 45) IsFileName) (HasMore-Marked IsTableName 61 HasMore-IsTableName)

-- it is a component
pub IsComponent-IsLinkName : (bytes : List ℕ) → IsLinkName bytes → IsComponent bytes
IsComponent-IsLinkName = IsComponent-IsShort IsLinkName 193 (omega arith) IsShort-IsLinkName HasMore-IsLinkName

-- so is a reference's name, of at most 226 bytes
pub IsComponent-IsRefName : (bytes : List ℕ) → IsRefName bytes → IsComponent bytes
unfolding has
IsComponent-IsRefName =
    let encoded = IsShort-IsExactly LowerHex 32 in
    let half = IsShort-Joined (Marked IsFileName 46) IsEncoded 60 32 (IsShort-Marked IsFileName 46 59 refl IsShort-IsFileName) encoded in
    let link = IsShort-Joined (Marked IsLinkName 46) IsEncoded 194 32 (IsShort-Marked IsLinkName 46 193 refl IsShort-IsLinkName) encoded in
    IsComponent-IsShort IsRefName 226 (omega arith)
    (IsShort-EitherOf IsHalfName (Joined (Marked IsLinkName 46) IsEncoded) 92 226 226 (omega arith) (omega arith) half link)
    (HasMore-EitherOf IsHalfName (Joined (Marked IsLinkName 46) IsEncoded)
    (HasMore-Joined (Marked IsFileName 46) IsEncoded (HasMore-Marked IsFileName 46 HasMore-IsFileName))
    (HasMore-Joined (Marked IsLinkName 46) IsEncoded (HasMore-Marked IsLinkName 46 HasMore-IsLinkName)))

-- and a back reference, of at most 133
pub IsComponent-IsBackRef : (bytes : List ℕ) → IsBackRef bytes → IsComponent bytes
unfolding has
IsComponent-IsBackRef = IsComponent-IsShort IsBackRef 133 (omega arith)
    (IsShort-Joined (Marked IsEncoded 46) IsTableName 33 100 (IsShort-Marked IsEncoded 46 32 refl (IsShort-IsExactly LowerHex 32)) IsShort-IsTableName)
    (HasMore-Joined (Marked IsEncoded 46) IsTableName (HasMore-Marked IsEncoded 46 (HasMore-digits 32 (omega arith))))

-- the directory of the back references to a file
pub IsComponent-links : (bytes : List ℕ) → IsFileName bytes → IsComponent (codes ".links-" ++ bytes)
unfolding has
IsComponent-links bytes file =
    let word : List ℕ = codes ".links-" in
    let short = IsShort-IsFileName.short bytes file in
    let long = length-append word bytes in
    record {
      least = omega arith;
      most = omega arith;
      each = AllIn-append word bytes (refl, (refl, (refl, (refl, (refl, (refl, (refl, tt))))))) (IsShort-IsFileName.each bytes file);
      not_dot = λ e. let same = ap length e in omega arith;
      not_two_dots = λ e. let same = ap length e in omega arith;
    }
