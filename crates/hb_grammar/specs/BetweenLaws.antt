use Rattle.std.proofs.Common.{◌≡◌, ℕ, zero, suc, ◌+◌, ◌*◌, ◌-◌, ◌/◌, ◌^◌, ◌<◌, ◌≤◌, [], ◌∷◌, ◌⊎◌, inl, inr, Option, Some, None, true, arith, ap, sym, ◌∙◌, refl, subst, mul_comm, mul_assoc, one-mul, add-mul, lt_of_le_of_lt, lt_of_mul-lt-mul_right, le-mul_of_pos_right, div-mul-le_self, div-lt_iff_lt-mul, le-div_iff_mul-le, eq-zero-or-pos, eq-or-lt_of_le, pow-suc}
use Rattle.std.proofs.lemmas.Bool.Decides.{nat_tests}
use Rattle.hb_grammar.specs.Grammar.{IsLive}
use Rattle.hb_grammar.specs.Class.{is_digit}
use Rattle.hb_grammar.specs.Between.{DigitsBetween, BetweenFrom, Reaches, IsOnTheWay}

-- one number is at most another, or above it
split : (a b : ℕ) → (a ≤ b) ⊎ (b < a)
split a zero = elim (eq-zero-or-pos a) as (λ _. (a ≤ 0) ⊎ (0 < a)) [ inl e ↦ inl (omega arith) | inr some ↦ inr some ]
split a (suc b) = elim (split a b) as (λ _. (a ≤ suc b) ⊎ (suc b < a))
    [ inl le ↦ inl (omega arith) | inr lt ↦ elim (eq-or-lt_of_le lt) as (λ _. (a ≤ suc b) ⊎ (suc b < a)) [ inl e ↦ inl (omega arith) | inr more ↦ inr more ] ]

-- no power of ten is 0
pub tens_some : (count : ℕ) → 0 < 10 ^ count
tens_some zero = omega arith
tens_some (suc count) = let e = pow-suc 10 count in let some = tens_some count in omega arith

-- a power of ten is above its exponent
tens_above : (count : ℕ) → count < 10 ^ count
tens_above zero = omega arith
tens_above (suc count) = let e = pow-suc 10 count in let above = tens_above count in omega arith

-- a digit more behind a number, and a power less
pub tens-suc : (value count : ℕ) → value * 10 ^ suc count ≡ value * 10 * 10 ^ count
tens-suc value count =
    ap (λ n. value * n) (pow-suc 10 count ∙ mul_comm (10 ^ count) 10) ∙ sym (mul_assoc value 10 (10 ^ count))

-- the next number's zeros stand a power further
pub tens-next : (value count : ℕ) → (value + 1) * 10 ^ count ≡ value * 10 ^ count + 10 ^ count
tens-next value count = add-mul value 1 (10 ^ count) ∙ ap (λ n. value * 10 ^ count + n) (one-mul (10 ^ count))

-- a number below ten is the value of a digit
is_digit_small : (digit : ℕ) → digit < 10 → is_digit (48 + digit) ≡ true
is_digit_small digit small = grind (arith, nat_tests)

-- a number that begins with the value is that of digits behind it
lives_at : (count low max value number : ℕ) → low ≤ number → number ≤ max → (value ≡ 0 → count ≡ 0) →
    value * 10 ^ count ≤ number → number < (value + 1) * 10 ^ count → IsLive (DigitsBetween low max value)
lives_at zero low max value number least most lone below above = ([], (omega arith, omega arith))
lives_at (suc count) low max value number least most lone below above =
    let some : 0 < value = elim (eq-zero-or-pos value) as (λ _. 0 < value) [ inl e ↦ (let none = lone e in absurd (omega arith)) | inr p ↦ p ] in
    let next : ℕ = number / 10 ^ count in
    let at : next * 10 ^ count ≤ number = div-mul-le_self number (10 ^ count) in
    let past : number < (next + 1) * 10 ^ count = (div-lt_iff_lt-mul {k = 10 ^ count} {x = number} {y = next + 1} (tens_some count)).0 (omega arith) in
    let start : value * 10 * 10 ^ count ≤ number = subst (λ n. n ≤ number) (tens-suc value count) below in
    let end : number < (value + 1) * 10 * 10 ^ count = subst (λ n. number < n) (tens-suc (value + 1) count) above in
    let not_below : value * 10 < next + 1 = lt_of_mul-lt-mul_right (10 ^ count) (lt_of_le_of_lt start past) in
    let not_above : next < (value + 1) * 10 = lt_of_mul-lt-mul_right (10 ^ count) (lt_of_le_of_lt at end) in
    let digit : ℕ = next - value * 10 in
    let whole : value * 10 + (48 + digit - 48) ≡ next = omega arith in
    let left = lives_at count low max next number least most (λ e. absurd (omega arith)) at past in
    ((48 + digit) ∷ left.0, (some, is_digit_small digit (omega arith), subst (λ n. DigitsBetween low max n left.0) (sym whole) left.1))

-- where so many digits more can make a number between the two, they do
IsLive-Reaches : (low max value : ℕ) → low ≤ max → Reaches low max value → IsLive (DigitsBetween low max value)
IsLive-Reaches low max value ordered reaches =
    let some = tens_some reaches.count in
    let e = tens-next value reaches.count in
    let below = reaches.below in
    let above = reaches.above in
    lives_at reaches.count low max value (value * 10 ^ reaches.count + (low - value * 10 ^ reaches.count)) (omega arith) (omega arith) reaches.lone (omega arith) (omega arith)

-- so many digits more can make a number between the two, or nothing that does so has this count
tried : (low max value count : ℕ) → Reaches low max value ⊎ ((r : Reaches low max value) → r.count ≡ count → ⊥)
tried low max value count =
    let Goal : Type 0 = Reaches low max value ⊎ ((r : Reaches low max value) → r.count ≡ count → ⊥) in
    elim (split (value * 10 ^ count) max) as (λ _. Goal) [
      | inr high ↦ inr (λ r e. let below = subst (λ n. value * 10 ^ n ≤ max) e r.below in omega arith)
      | inl below ↦ elim (split ((value + 1) * 10 ^ count) low) as (λ _. Goal) [
        | inl short ↦ inr (λ r e. let above = subst (λ n. low < (value + 1) * 10 ^ n) e r.above in omega arith)
        | inr above ↦ elim (eq-zero-or-pos value) as (λ _. Goal) [
          | inr some ↦ inl (record { count = count; lone = λ e. absurd (omega arith); below = below; above = above })
          | inl zeroes ↦ elim (eq-zero-or-pos count) as (λ _. Goal) [
            | inl none ↦ inl (record { count = count; lone = λ e. none; below = below; above = above })
            | inr many ↦ inr (λ r e. let none = r.lone zeroes in omega arith)
          ]
        ]
      ]
    ]

-- a count of digits that cannot be absent is found below a limit
found : (limit low max value : ℕ) → ((r : Reaches low max value) → limit ≤ r.count → ⊥) → ((Reaches low max value → ⊥) → ⊥) → Reaches low max value
found zero low max value none some = absurd (some (λ r. none r (omega arith)))
found (suc limit) low max value none some = elim (tried low max value limit) as (λ _. Reaches low max value) [
  | inl reaches ↦ reaches
  | inr other ↦ found limit low max value
      (λ r le. elim (eq-or-lt_of_le le) as (λ _. ⊥) [ inl e ↦ other r (sym e) | inr more ↦ none r more ]) some
]

-- no number up to max has more digits than max is high
few : (low max value : ℕ) (r : Reaches low max value) → max + 1 ≤ r.count → ⊥
few low max value r many =
    let below = r.below in
    let tens = tens_above r.count in
    elim (eq-zero-or-pos value) as (λ _. ⊥) [
      | inl e ↦ (let none = r.lone e in omega arith)
      | inr some ↦ (let least : 10 ^ r.count ≤ 10 ^ r.count * value = le-mul_of_pos_right {m = value} (10 ^ r.count) some in let e = mul_comm value (10 ^ r.count) in omega arith)
    ]

-- a number has a first digit
record Begins (number : ℕ) : Type 0 where
  digit : ℕ
  count : ℕ
  some : 0 < digit
  small : digit < 10
  below : digit * 10 ^ count ≤ number
  above : number < (digit + 1) * 10 ^ count

-- that of each number but 0
begins : (limit number : ℕ) → 0 < number → number < 10 ^ limit → Begins number
begins zero number some within = absurd (omega arith)
begins (suc limit) number some within = elim (split (10 ^ limit) number) as (λ _. Begins number) [
  | inl high ↦ (
      let e = pow-suc 10 limit in
      let e' = mul_comm (10 ^ limit) 10 in
      let digit : ℕ = number / 10 ^ limit in
      record {
        digit = digit;
        count = limit;
        some = (le-div_iff_mul-le {k = 10 ^ limit} {x = 1} {y = number} (tens_some limit)).1 (omega (arith, one-mul (10 ^ limit)));
        small = (div-lt_iff_lt-mul {k = 10 ^ limit} {x = number} {y = 10} (tens_some limit)).1 (omega arith);
        below = div-mul-le_self number (10 ^ limit);
        above = (div-lt_iff_lt-mul {k = 10 ^ limit} {x = number} {y = digit + 1} (tens_some limit)).0 (omega arith);
      }
      )
  | inr low ↦ begins limit number some low
]

-- there is a number between two that are in order
IsLive-none : (low max : ℕ) → low ≤ max → IsLive (BetweenFrom low max None)
IsLive-none low max ordered = elim (eq-zero-or-pos low) as (λ _. IsLive (BetweenFrom low max None)) [
  | inl e ↦ (48 ∷ [], (refl, (omega arith, omega arith)))
  | inr some ↦ (
      let first = begins low low some (tens_above low) in
      let positive = first.some in
      let left = lives_at first.count low max first.digit low (omega arith) ordered (λ e. absurd (omega arith)) first.below first.above in
      let e : 48 + first.digit - 48 ≡ first.digit = omega arith in
      ((48 + first.digit) ∷ left.0, (is_digit_small first.digit first.small, subst (λ n. DigitsBetween low max n left.0) (sym e) left.1))
      )
]

-- whatever was read on the way to a number between the two can be completed
pub IsLive-BetweenFrom : (low max : ℕ) (value : Option ℕ) → low ≤ max → IsOnTheWay low max value → IsLive (BetweenFrom low max value)
IsLive-BetweenFrom low max None ordered way = IsLive-none low max ordered
IsLive-BetweenFrom low max (Some value) ordered way =
    IsLive-Reaches low max value ordered (found (max + 1) low max value (few low max value) (way value refl))
