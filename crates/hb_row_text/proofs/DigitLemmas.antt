use Rattle.std.proofs.Common.{◌≡◌, ℕ, zero, suc, ◌+◌, ◌<◌, ◌==◌, Bool, true, ◌&&◌, cond, nat_lt, inl, inr, slice_index, refl, arith}
use Rattle.std.proofs.lemmas.Bool.{and_parts, cases_lt, eqb-true}
use Rattle.hex.specs.Hex.{lower_digits}

-- the digit of a value below 16: 48 is 0, and 97 is a
abbrev pub digit_of : ℕ → ℕ
digit_of value = cond (nat_lt value 10) (48 + value) (87 + value)

-- whether the table has these digits at its first so many places
abbrev all_digits : ℕ → Bool
all_digits zero = true
all_digits (suc count) = (slice_index lower_digits count == digit_of count) && all_digits count

-- each of them has its digit
digit_of-all_digits : (count value : ℕ) → all_digits count ≡ true → value < count → slice_index lower_digits value ≡ digit_of value
digit_of-all_digits zero value e below = absurd (omega arith)
digit_of-all_digits (suc count) value e below =
    let parts = and_parts (slice_index lower_digits count == digit_of count) (all_digits count) e in
    elim (cases_lt value count) [
      | inl less ↦ digit_of-all_digits count value parts.1 less
      | inr top ↦
          let same : value ≡ count = omega arith in
          rw same (eqb-true (slice_index lower_digits count) (digit_of count) parts.0)
    ]

-- the table has each digit at the place of its value
pub digit_of-lower_digits : (value : ℕ) → value < 16 → slice_index lower_digits value ≡ digit_of value
digit_of-lower_digits value below = digit_of-all_digits 16 value refl below
