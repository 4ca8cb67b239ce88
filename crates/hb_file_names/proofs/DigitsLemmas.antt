use Rattle.std.proofs.Common.{◌≡◌, ℕ, zero, suc, ◌*◌, ◌%◌, ◌<◌, ◌^◌, List, [], ◌∷◌, length, Result, Ok, Err, refl, sym, ap, ◌∙◌, subst, arith}
use Rattle.std.specs.Prelude.{MatchResult}
use Rattle.std.specs.Int.{w64, to_be_bytes, from_be_bytes, bytes_high_first, byte_at}
use Rattle.std.proofs.lemmas.Nat.{be_bytes_8, from_be_bytes-to_be_bytes_8}
use Rattle.hex.specs.Hex.{IsBytes, decode_of, decode_sized, encode_lower, lower_digits}
use Rattle.hex.specs.declared.error.FromHexError.{FromHexError}
use Rattle.hex.proofs.HexLemmas.{decode_of-encode_lower, decode_of-same, decode_sized-twice, decode_of-even, length-encode_with}
use Rattle.hb_grammar.specs.declared.class.Class.TheVariants.{LowerHex}
use Rattle.hb_grammar.specs.Run.{IsExactly}
use Rattle.hb_grammar.proofs.LowerHexLemmas.{IsBytes-cons, IsRead-AllIn, IsExactly-encode_lower}
use Rattle.hb_file_names.specs.FileParts.{sixteen_digits}

-- what decodes to bytes, and a number that is made of these: its digits are the text
pub sixteen_digits-from_be_bytes : (digits out : List ℕ) (r : Result Unit FromHexError) (number : ℕ) → IsExactly LowerHex 16 digits →
    MatchResult (decode_sized digits 8) (λ bytes. (r ≡ Ok tt) × (out ≡ bytes)) (λ e. r ≡ Err e) →
    number ≡ from_be_bytes w64 out → sixteen_digits number ≡ digits
sixteen_digits-from_be_bytes digits out r number exactly decodes e =
    let long = exactly.long in
    let read = IsRead-AllIn 0 digits (omega arith) exactly.each in
    let sized : decode_sized digits 8 ≡ Ok read.0 =
    decode_sized-twice digits 8 (omega arith) ∙ decode_of-even digits (omega arith) ∙ read.1.decoded in
    let P : Result (List ℕ) FromHexError → Type 0 = λ d. MatchResult d (λ bytes. (r ≡ Ok tt) × (out ≡ bytes)) (λ e. r ≡ Err e) in
    let same = (subst P sized decodes).1 in
    let eight : length read.0 ≡ 8 = omega (arith, length-encode_with lower_digits read.0, ap length read.1.encoded, long) in
    let back : to_be_bytes w64 number ≡ read.0 = be_bytes_8 read.0 number eight read.1.small (e ∙ ap (from_be_bytes w64) same) in
    ap encode_lower back ∙ read.1.encoded

-- so many bytes of a number are so many
length-bytes_high_first : (count number : ℕ) → length (bytes_high_first count number) ≡ count
length-bytes_high_first zero number = refl
length-bytes_high_first (suc count) number = ap suc (length-bytes_high_first count number)

-- a byte of a number is one
byte_at-lt : (i number : ℕ) → byte_at i number < 256
byte_at-lt zero number = omega arith
byte_at-lt (suc i) number = omega arith

-- the bytes of a number are bytes
IsBytes-bytes_high_first : (count number : ℕ) → IsBytes (bytes_high_first count number)
IsBytes-bytes_high_first zero number = λ i. omega arith
IsBytes-bytes_high_first (suc count) number =
    IsBytes-cons (byte_at count number) (bytes_high_first count number) (byte_at-lt count number) (IsBytes-bytes_high_first count number)

-- a number of 64 bits has 16 digits
pub IsExactly-sixteen_digits : (number : ℕ) → IsExactly LowerHex 16 (sixteen_digits number)
IsExactly-sixteen_digits number =
    IsExactly-encode_lower (to_be_bytes w64 number) 8 (length-bytes_high_first 8 number) (IsBytes-bytes_high_first 8 number)

-- numbers of 64 bits are told by their digits
pub sixteen_digits-injective : (m n : ℕ) → m < 2 ^ 64 → n < 2 ^ 64 → sixteen_digits m ≡ sixteen_digits n → m ≡ n
sixteen_digits-injective m n small small' e =
    let of_m = decode_of-encode_lower (to_be_bytes w64 m) (IsBytes-bytes_high_first 8 m) in
    let of_n = decode_of-encode_lower (to_be_bytes w64 n) (IsBytes-bytes_high_first 8 n) in
    let same : to_be_bytes w64 m ≡ to_be_bytes w64 n = decode_of-same (sixteen_digits m) (to_be_bytes w64 m) (to_be_bytes w64 n) of_m (ap decode_of e ∙ of_n) in
    sym (from_be_bytes-to_be_bytes_8 m small) ∙ ap (from_be_bytes w64) same ∙ from_be_bytes-to_be_bytes_8 n small'
