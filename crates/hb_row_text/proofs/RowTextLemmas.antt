use Rattle.std.proofs.Common.{◌≡◌, ℕ, ◌*◌, ◌<◌, ◌≤◌, suc, true, false, eqb, inl, inr, List, [], ◌∷◌, length, Ok, refl, sym, ap, ◌∙◌, subst, arith}
use Rattle.hex.specs.Hex.{IsBytes, decode_of, encode_lower, lower_digits}
use Rattle.hex.proofs.HexLemmas.{decode_of-encode_lower, decode_of-same, length-encode_with}
use Rattle.hb_grammar.specs.declared.class.Class.TheVariants.{LowerHex}
use Rattle.hb_grammar.specs.Class.{has}
use Rattle.hb_grammar.specs.Grammar.{Follows, Same}
use Rattle.hb_grammar.specs.Marked.{Avoids}
use Rattle.hb_grammar.proofs.AvoidsLemmas.{Free, Lacks, Lacks-AllIn, Avoids-Free}
use Rattle.hb_row_text.specs.RowText.{row_text, IsRowText}
use Rattle.hb_row_text.specs.RowDigits.{DigitsLeft, IsRowDigits}
use Rattle.hb_grammar.proofs.LowerHexLemmas.{AllIn-encode_lower, IsRead-AllIn}

-- the text of a row that is not empty has two digits for each byte
pub row_text-some : (row : List ℕ) → 0 < length row → row_text row ≡ encode_lower row
row_text-some [] some = absurd (omega arith)
row_text-some (byte ∷ bytes) some = refl

-- an even count of digits is the text of a row
IsRowText-DigitsLeft : (bytes : List ℕ) → 0 < length bytes → DigitsLeft 65534 bytes → IsRowText bytes
IsRowText-DigitsLeft bytes some digits =
    let most = digits.most in
    let even = digits.even in
    let read = IsRead-AllIn 0 bytes (omega arith) digits.each in
    let long : length bytes ≡ 2 * length read.0 = sym (ap length read.1.encoded) ∙ length-encode_with lower_digits read.0 in
    record { row = read.0; small = read.1.small; limit = omega arith; whole = sym (row_text-some read.0 (omega arith) ∙ read.1.encoded) }

-- the text of a row is -, or an even count of digits
IsRowDigits-row_text : (row : List ℕ) → IsBytes row → length row ≤ 32767 → IsRowDigits (row_text row)
IsRowDigits-row_text [] small limit = inl refl
IsRowDigits-row_text (byte ∷ bytes) small limit =
    let long : length (encode_lower (byte ∷ bytes)) ≡ 2 * suc (length bytes) = length-encode_with lower_digits (byte ∷ bytes) in
    inr (omega arith, record { most = omega arith; even = omega arith; each = AllIn-encode_lower (byte ∷ bytes) small })

-- the text of a row, as digits
pub IsRowDigits-IsRowText : (bytes : List ℕ) → IsRowText bytes → IsRowDigits bytes
IsRowDigits-IsRowText bytes text = subst IsRowDigits (sym text.whole) (IsRowDigits-row_text text.row text.small text.limit)

-- the texts of row keys are -, and the even counts of digits
pub Same-IsRowDigits : Same IsRowDigits IsRowText
Same-IsRowDigits = record {
  forth = λ bytes digits. elim digits as (λ _. IsRowText bytes) [
    | inl e ↦ record { row = []; small = λ i. omega arith; limit = omega arith; whole = e }
    | inr many ↦ IsRowText-DigitsLeft bytes many.0 many.1
  ];
  back = IsRowDigits-IsRowText;
}

-- behind the byte - stands nothing
pub Follows-dash : (byte : ℕ) → byte ≡ 45 → Follows IsRowDigits byte (λ bytes. bytes ≡ [])
unfolding has
Follows-dash byte dash = record {
  forth = λ rest digits. elim digits as (λ _. rest ≡ []) [
    | inl e ↦ cc
    | inr many ↦ let wrong : has LowerHex 45 ≡ true = subst (λ b. has LowerHex b ≡ true) dash many.1.each.0 in absurd (cc wrong)
  ];
  back = λ rest e. inl cc;
}

-- the text of a row lacks each byte that is neither a digit nor -
pub Free-IsRowText : (mark : ℕ) → has LowerHex mark ≡ false → eqb 45 mark ≡ false → Free IsRowText mark
Free-IsRowText mark outside apart bytes text = elim (IsRowDigits-IsRowText bytes text) as (λ _. Lacks mark bytes) [
  | inl e ↦ subst (Lacks mark) (sym e) (apart, tt)
  | inr many ↦ Lacks-AllIn LowerHex mark outside bytes many.1.each
]

-- it has no blank
pub Avoids-IsRowText_blank : Avoids IsRowText 32
unfolding has
Avoids-IsRowText_blank = Avoids-Free IsRowText 32 (Free-IsRowText 32 refl refl)

-- it has no line feed
pub Avoids-IsRowText_line_feed : Avoids IsRowText 10
unfolding has
Avoids-IsRowText_line_feed = Avoids-Free IsRowText 10 (Free-IsRowText 10 refl refl)

-- no digits are the text of the empty row
no_dash : (row : List ℕ) → encode_lower row ≡ 45 ∷ [] → ⊥
no_dash row e = let long = length-encode_with lower_digits row in let one : length (encode_lower row) ≡ 1 = ap length e in absurd (omega arith)

-- rows are told by their texts
pub row_text-injective : (a b : List ℕ) → IsBytes a → IsBytes b → row_text a ≡ row_text b → a ≡ b
row_text-injective [] [] small_a small_b e = refl
row_text-injective [] (y ∷ ys) small_a small_b e = absurd (no_dash (y ∷ ys) (sym e))
row_text-injective (x ∷ xs) [] small_a small_b e = absurd (no_dash (x ∷ xs) e)
row_text-injective (x ∷ xs) (y ∷ ys) small_a small_b e =
    decode_of-same (encode_lower (x ∷ xs)) (x ∷ xs) (y ∷ ys) (decode_of-encode_lower (x ∷ xs) small_a)
    (ap decode_of e ∙ decode_of-encode_lower (y ∷ ys) small_b)

-- a text of one byte is that of the empty row
pub row_text-one : (bytes : List ℕ) → IsRowText bytes → length bytes ≡ 1 → 45 ∷ [] ≡ bytes
row_text-one bytes text one = elim (IsRowDigits-IsRowText bytes text) as (λ _. 45 ∷ [] ≡ bytes) [
  | inl e ↦ sym e
  | inr many ↦ let even = many.1.even in absurd (omega arith)
]

-- the row of a text
pub record IsRowOf (bytes row : List ℕ) : Type 0 where
  pub whole : row_text row ≡ bytes
  pub small : IsBytes row
  pub limit : length row ≤ 32767

-- what a text decodes to is its row, unless it is -
decoded_row : (row out : List ℕ) → IsBytes row → length row ≤ 32767 → (length (row_text row) ≡ 1 → ⊥) → decode_of (row_text row) ≡ Ok out → IsRowOf (row_text row) out
decoded_row [] out small limit more e = absurd (more refl)
decoded_row (x ∷ xs) out small limit more e =
    let same : x ∷ xs ≡ out = decode_of-same (encode_lower (x ∷ xs)) (x ∷ xs) out (decode_of-encode_lower (x ∷ xs) small) e in
    subst (IsRowOf (row_text (x ∷ xs))) same (record { whole = refl; small = small; limit = limit })

-- so is what the bytes of a text decode to
pub IsRowOf-decode_of : (bytes out : List ℕ) → IsRowText bytes → (length bytes ≡ 1 → ⊥) → decode_of bytes ≡ Ok out → IsRowOf bytes out
IsRowOf-decode_of bytes out text more e =
    let P : List ℕ → Type 0 = λ b. (length b ≡ 1 → ⊥) → decode_of b ≡ Ok out → IsRowOf b out in
    subst P (sym text.whole) (decoded_row text.row out text.small text.limit) more e
