use Rattle.std.proofs.Common.{◌≡◌, ℕ, suc, ◌/◌, ◌%◌, ◌<◌, inl, inr, List, [], ◌∷◌, slice_index, nat_cmp, refl, ap, arith}
use Rattle.std.specs.Cmp.Lexicographic.{slice_cmp}
use Rattle.std.specs.Ordering.{ordering_then}
use Rattle.std.specs.declared.cmp.Ordering.{Ordering}
use Rattle.std.specs.declared.cmp.Ordering.TheVariants.{Less, Equal, Greater}
use Rattle.std.proofs.lemmas.Bool.{cases_order}
use Rattle.std.proofs.lemmas.Bool.Decides.{nat_tests}
use Rattle.hex.specs.Hex.{IsBytes, encode_lower, encode_with, lower_digits}
use Rattle.hb_row_text.specs.RowText.{row_text}
use Rattle.hb_row_text.proofs.DigitLemmas.{digit_of, digit_of-lower_digits}

-- a number is compared as equal with itself
pub nat_cmp-same : (x y : ℕ) → x ≡ y → nat_cmp x y ≡ Equal
nat_cmp-same x y same = grind (arith, nat_tests)

-- as less than one above it
pub nat_cmp-below : (x y : ℕ) → x < y → nat_cmp x y ≡ Less
nat_cmp-below x y below = grind (arith, nat_tests)

-- and as greater than one below it
pub nat_cmp-above : (x y : ℕ) → y < x → nat_cmp x y ≡ Greater
nat_cmp-above x y above = grind (arith, nat_tests)

-- the digits ascend with their values
digit_of-lt : (m n : ℕ) → m < n → digit_of m < digit_of n
digit_of-lt m n below = grind (arith, nat_tests)

-- digits are compared as their values
nat_cmp-lower_digits : (m n : ℕ) → m < 16 → n < 16 → nat_cmp (slice_index lower_digits m) (slice_index lower_digits n) ≡ nat_cmp m n
nat_cmp-lower_digits m n small_m small_n =
    rw (digit_of-lower_digits m small_m, digit_of-lower_digits n small_n) (elim (cases_order m n) as (λ _. nat_cmp (digit_of m) (digit_of n) ≡ nat_cmp m n) [
      | inl same ↦ rw (nat_cmp-same m n same) (nat_cmp-same (digit_of m) (digit_of n) (ap digit_of same))
      | inr (inl below) ↦ rw (nat_cmp-below m n below) (nat_cmp-below (digit_of m) (digit_of n) (digit_of-lt m n below))
      | inr (inr above) ↦ rw (nat_cmp-above m n above) (nat_cmp-above (digit_of m) (digit_of n) (digit_of-lt n m above))
    ])

-- bytes are compared as their two digits
nat_cmp-digits : (a b : ℕ) (rest : Ordering) → ordering_then (nat_cmp (a / 16) (b / 16)) (ordering_then (nat_cmp (a % 16) (b % 16)) rest) ≡ ordering_then (nat_cmp a b) rest
nat_cmp-digits a b rest = elim (cases_order (a / 16) (b / 16)) [
  | inl high ↦ elim (cases_order (a % 16) (b % 16)) [
    | inl low ↦ rw (nat_cmp-same (a / 16) (b / 16) high, nat_cmp-same (a % 16) (b % 16) low, nat_cmp-same a b (omega arith))
    | inr (inl below) ↦ rw (nat_cmp-same (a / 16) (b / 16) high, nat_cmp-below (a % 16) (b % 16) below, nat_cmp-below a b (omega arith))
    | inr (inr above) ↦ rw (nat_cmp-same (a / 16) (b / 16) high, nat_cmp-above (a % 16) (b % 16) above, nat_cmp-above a b (omega arith))
  ]
  | inr (inl below) ↦ rw (nat_cmp-below (a / 16) (b / 16) below, nat_cmp-below a b (omega arith))
  | inr (inr above) ↦ rw (nat_cmp-above (a / 16) (b / 16) above, nat_cmp-above a b (omega arith))
]

-- bytes are compared as their digits
slice_cmp-encode_lower : (xs ys : List ℕ) → IsBytes xs → IsBytes ys → slice_cmp nat_cmp (encode_lower xs) (encode_lower ys) ≡ slice_cmp nat_cmp xs ys
unfolding encode_with
slice_cmp-encode_lower [] [] small_x small_y = refl
slice_cmp-encode_lower [] (y ∷ ys) small_x small_y = refl
slice_cmp-encode_lower (x ∷ xs) [] small_x small_y = refl
slice_cmp-encode_lower (x ∷ xs) (y ∷ ys) small_x small_y =
    let first_x : x < 256 = small_x 0 in
    let first_y : y < 256 = small_y 0 in
    let high = nat_cmp-lower_digits (x / 16) (y / 16) (omega arith) (omega arith) in
    let low = nat_cmp-lower_digits (x % 16) (y % 16) (omega arith) (omega arith) in
    let rest = slice_cmp-encode_lower xs ys (λ i. small_x (suc i)) (λ i. small_y (suc i)) in
    rw (high, low, rest) (nat_cmp-digits x y (slice_cmp nat_cmp xs ys))

-- the byte - is below each digit
dash_below : (value : ℕ) → value < 16 → 45 < slice_index lower_digits value
dash_below value small = rw (digit_of-lower_digits value small) (grind (arith, nat_tests))

-- the texts of rows are in the order of the rows
pub slice_cmp-row_text : (a b : List ℕ) → IsBytes a → IsBytes b → slice_cmp nat_cmp (row_text a) (row_text b) ≡ slice_cmp nat_cmp a b
unfolding encode_with
slice_cmp-row_text [] [] small_a small_b = refl
slice_cmp-row_text [] (y ∷ ys) small_a small_b =
    let first : y < 256 = small_b 0 in
    let below = dash_below (y / 16) (omega arith) in
    rw (nat_cmp-below 45 (slice_index lower_digits (y / 16)) below)
slice_cmp-row_text (x ∷ xs) [] small_a small_b =
    let first : x < 256 = small_a 0 in
    let below = dash_below (x / 16) (omega arith) in
    rw (nat_cmp-above (slice_index lower_digits (x / 16)) 45 below)
slice_cmp-row_text (x ∷ xs) (y ∷ ys) small_a small_b = slice_cmp-encode_lower (x ∷ xs) (y ∷ ys) small_a small_b
