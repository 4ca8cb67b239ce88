use Rattle.std.proofs.Common.{◌≡◌, ℕ, zero, suc, ◌+◌, ◌*◌, ◌/◌, ◌%◌, ◌<◌, ◌==◌, Bool, true, not, ◌&&◌, ◌||◌, nat_lt, inl, inr, List, [], ◌∷◌, length, slice_index, Option, Some, None, unwrap_or, Result, Ok, refl, ap, ◌∙◌, arith}
use Rattle.std.proofs.lemmas.Bool.{and_parts, cases_lt, eqb-true}
use Rattle.std.proofs.lemmas.Bool.Decides.{nat_tests}
use Rattle.hex.specs.Hex.{IsBytes, decode_pairs, encode_lower, encode_with, hex_digit_value, lower_digits, pair_value}
use Rattle.hex.proofs.HexLemmas.{length-encode_with}
use Rattle.hex.proofs.Pairs.{cons_byte, decode_pairs-ok_pair}
use Rattle.hb_grammar.specs.declared.class.Class.TheVariants.{LowerHex}
use Rattle.hb_grammar.specs.Class.{has, AllIn}
use Rattle.hb_grammar.specs.Run.{IsExactly}

-- whether the first so many digits of the table are lower-case digits
abbrev all_lower : ℕ → Bool
all_lower zero = true
all_lower (suc count) = has LowerHex (slice_index lower_digits count) && all_lower count

-- each of them is
has-all_lower : (count digit : ℕ) → all_lower count ≡ true → digit < count → has LowerHex (slice_index lower_digits digit) ≡ true
has-all_lower zero digit e below = absurd (omega arith)
has-all_lower (suc count) digit e below =
    let parts = and_parts (has LowerHex (slice_index lower_digits count)) (all_lower count) e in
    elim (cases_lt digit count) [
      | inl less ↦ has-all_lower count digit parts.1 less
      | inr top ↦ let same : digit ≡ count = omega arith in rw same parts.0
    ]

-- all 16 are
has-lower_digits : (digit : ℕ) → digit < 16 → has LowerHex (slice_index lower_digits digit) ≡ true
unfolding has
has-lower_digits digit below = has-all_lower 16 digit refl below

-- the digits of bytes are lower-case digits
pub AllIn-encode_lower : (bytes : List ℕ) → IsBytes bytes → AllIn LowerHex (encode_lower bytes)
unfolding encode_with
AllIn-encode_lower [] each = tt
AllIn-encode_lower (byte ∷ bytes) each =
    let small : byte < 256 = each 0 in
    (has-lower_digits (byte / 16) (omega arith), (has-lower_digits (byte % 16) (omega arith), AllIn-encode_lower bytes (λ i. each (suc i))))

-- so many bytes have twice as many digits
pub IsExactly-encode_lower : (bytes : List ℕ) (count : ℕ) → length bytes ≡ count → IsBytes bytes → IsExactly LowerHex (2 * count) (encode_lower bytes)
IsExactly-encode_lower bytes count long each =
    record { long = omega (arith, length-encode_with lower_digits bytes, long); each = AllIn-encode_lower bytes each }

-- whether the byte, where it is a lower-case digit, has a value below 16 at whose place it stands in the table
abbrev is_told : ℕ → Bool
is_told byte = not (has LowerHex byte) || (nat_lt (unwrap_or (hex_digit_value byte) 99) 16 && (slice_index lower_digits (unwrap_or (hex_digit_value byte) 99) == byte))

-- whether that is so of all bytes below a number
abbrev all_told : ℕ → Bool
all_told zero = true
all_told (suc count) = is_told count && all_told count

-- each of them passes it
is_told-all_told : (count byte : ℕ) → all_told count ≡ true → byte < count → is_told byte ≡ true
is_told-all_told zero byte e below = absurd (omega arith)
is_told-all_told (suc count) byte e below =
    let parts = and_parts (is_told count) (all_told count) e in
    elim (cases_lt byte count) [
      | inl less ↦ is_told-all_told count byte parts.1 less
      | inr top ↦ let same : byte ≡ count = omega arith in rw same parts.0
    ]

-- a lower-case digit has a value below 16, at whose place it stands in the table
record Tells (byte digit : ℕ) : Type 0 where
  value : hex_digit_value byte ≡ Some digit
  small : digit < 16
  place : slice_index lower_digits digit ≡ byte

-- no lower-case digit is above the letter f
lower_bound : (byte : ℕ) → has LowerHex byte ≡ true → byte < 103
unfolding has
lower_bound byte e = grind (arith, nat_tests)

-- a value below 16 is there
some_unwrap : (o : Option ℕ) → unwrap_or o 99 < 16 → o ≡ Some (unwrap_or o 99)
some_unwrap (Some v) small = refl
some_unwrap None small = absurd (omega arith)

-- a lower-case digit's value, which is 99 for any other byte
abbrev value_of : ℕ → ℕ
value_of byte = unwrap_or (hex_digit_value byte) 99

-- a lower-case digit that passes the test
Tells-is_told : (byte : ℕ) → has LowerHex byte ≡ true → is_told byte ≡ true → Tells byte (value_of byte)
Tells-is_told byte e test =
    let both : (nat_lt (value_of byte) 16 && (slice_index lower_digits (value_of byte) == byte)) ≡ true = rw e at test in
    let parts = and_parts (nat_lt (value_of byte) 16) (slice_index lower_digits (value_of byte) == byte) both in
    let first = parts.0 in
    let small : value_of byte < 16 = grind (arith, nat_tests) in
    record {
      value = some_unwrap (hex_digit_value byte) small;
      small = small;
      place = eqb-true (slice_index lower_digits (value_of byte)) byte parts.1;
    }

-- all bytes up to the letter f pass it
all_told_up_to_f : all_told 103 ≡ true
unfolding has
all_told_up_to_f = refl

-- each lower-case digit has a value
Tells-has : (byte : ℕ) → has LowerHex byte ≡ true → Tells byte (value_of byte)
Tells-has byte e = Tells-is_told byte e (is_told-all_told 103 byte all_told_up_to_f (lower_bound byte e))

-- the bytes that lower-case digits are the text of
pub record IsRead (i : ℕ) (digits bytes : List ℕ) : Type 0 where
  pub decoded : decode_pairs i digits ≡ Ok bytes
  pub encoded : encode_lower bytes ≡ digits
  pub small : IsBytes bytes

-- one byte more before bytes
pub IsBytes-cons : (byte : ℕ) (bytes : List ℕ) → byte < 256 → IsBytes bytes → IsBytes (byte ∷ bytes)
IsBytes-cons byte bytes first rest zero = first
IsBytes-cons byte bytes first rest (suc i) = rest i

-- two bytes before others
same_pair : {w x y z : ℕ} {xs ys : List ℕ} → w ≡ y → x ≡ z → xs ≡ ys → w ∷ x ∷ xs ≡ y ∷ z ∷ ys
same_pair {w} {x} {y} {z} {xs} {ys} e f g = cc

-- an even number of lower-case digits is the text of bytes
pub IsRead-AllIn : (i : ℕ) (digits : List ℕ) → length digits % 2 ≡ 0 → AllIn LowerHex digits → (bytes : List ℕ) × IsRead i digits bytes
unfolding decode_pairs encode_with
IsRead-AllIn i [] even each = ([], record { decoded = refl; encoded = refl; small = λ k. omega arith })
IsRead-AllIn i (a ∷ []) even each = absurd (omega arith)
IsRead-AllIn i (a ∷ b ∷ digits) even each =
    let high = Tells-has a each.0 in
    let low = Tells-has b each.1.0 in
    let high_small = high.small in
    let low_small = low.small in
    let rest = IsRead-AllIn (i + 2) digits (omega arith) each.1.1 in
    let byte : ℕ = value_of a * 16 + value_of b in
    let pair : pair_value a b i ≡ Ok byte = rw (high.value, low.value) refl in
    let front : byte / 16 ≡ value_of a = omega arith in
    let back : byte % 16 ≡ value_of b = omega arith in (
      byte ∷ rest.0,
      record {
        decoded = decode_pairs-ok_pair i a b byte digits pair ∙ ap (cons_byte byte) rest.1.decoded;
        encoded = same_pair (ap (slice_index lower_digits) front ∙ high.place) (ap (slice_index lower_digits) back ∙ low.place) rest.1.encoded;
        small = IsBytes-cons byte rest.0 (omega arith) rest.1.small;
      },
    )
