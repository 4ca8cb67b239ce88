use Rattle.std.proofs.Common.{◌≡◌, ℕ, suc, ◌+◌, ◌*◌, ◌-◌, ◌^◌, ◌<◌, ◌≤◌, List, [], ◌∷◌, true, arith, ap, sym, ◌∙◌, refl, subst, mul_assoc, mul-le-mul_right, mul-le-mul_left, le_trans, lt_of_lt_of_le, le-mul_of_pos_right, pow-suc, pow-add}
use Rattle.std.proofs.lemmas.Bool.Decides.{nat_tests}
use Rattle.hb_grammar.specs.Class.{is_digit}
use Rattle.hb_grammar.specs.Between.{DigitsBetween, Reaches}
use Rattle.hb_grammar.specs.BetweenLaws.{tens_some, tens-suc, tens-next}

-- the powers of ten ascend
tens_mono : (low high : ℕ) → low ≤ high → 10 ^ low ≤ 10 ^ high
tens_mono low high le =
    let whole : low + (high - low) ≡ high = omega arith in
    let e : 10 ^ high ≡ 10 ^ low * 10 ^ (high - low) = sym (ap (λ n. 10 ^ n) whole) ∙ pow-add 10 low (high - low) in
    subst (λ n. 10 ^ low ≤ n) (sym e) (le-mul_of_pos_right {m = 10 ^ (high - low)} (10 ^ low) (tens_some (high - low)))

-- a digit is at most 9
digit_small : (digit : ℕ) → is_digit digit ≡ true → digit - 48 < 10
digit_small digit e = grind (arith, nat_tests)

-- digits that are left show how many there can be
pub Reaches-DigitsBetween : (low max value : ℕ) (bytes : List ℕ) → DigitsBetween low max value bytes → Reaches low max value
Reaches-DigitsBetween low max value [] left = record { count = 0; lone = λ e. refl; below = omega (arith, left.1); above = omega (arith, left.0) }
Reaches-DigitsBetween low max value (digit ∷ digits) left =
    let some = left.0 in
    let small = digit_small digit left.1 in
    let more = Reaches-DigitsBetween low max (value * 10 + (digit - 48)) digits left.2 in
    let start : value * 10 ≤ value * 10 + (digit - 48) = omega arith in
    let end : value * 10 + (digit - 48) + 1 ≤ (value + 1) * 10 = omega arith in
    record {
      count = suc more.count;
      lone = λ e. absurd (omega arith);
      below = subst (λ n. n ≤ max) (sym (tens-suc value more.count)) (le_trans (mul-le-mul_right (10 ^ more.count) start) more.below);
      above = subst (λ n. low < n) (sym (tens-suc (value + 1) more.count)) (lt_of_lt_of_le more.above (mul-le-mul_right (10 ^ more.count) end));
    }

-- a value with such digits behind it is not above the higher number
pub le-DigitsBetween : (low max value : ℕ) (bytes : List ℕ) → DigitsBetween low max value bytes → value ≤ max
le-DigitsBetween low max value [] left = left.1
le-DigitsBetween low max value (digit ∷ digits) left = let more = le-DigitsBetween low max (value * 10 + (digit - 48)) digits left.2 in omega arith

-- a value, and a 1, with as many zeros behind each
pub record Shifts (max value front span : ℕ) : Type 0 where
  pub count : ℕ
  pub front_is : front ≡ value * 10 ^ count
  pub span_is : span ≡ 10 ^ count
  pub some : 0 < span
  pub least : span ≤ front
  pub within : front ≤ max

-- a zero more
pub Shifts-more : (max value front span : ℕ) → Shifts max value front span → front * 10 ≤ max → Shifts max value (front * 10) (span * 10)
Shifts-more max value front span shifts within =
    let some = shifts.some in
    let least = shifts.least in
    record {
      count = suc shifts.count;
      front_is = ap (λ n. n * 10) shifts.front_is ∙ mul_assoc value (10 ^ shifts.count) 10 ∙ ap (λ n. value * n) (sym (pow-suc 10 shifts.count));
      span_is = ap (λ n. n * 10) shifts.span_is ∙ sym (pow-suc 10 shifts.count);
      some = omega arith;
      least = omega arith;
      within = within;
    }

-- where the two with their zeros reach the lower number, the value can
pub Reaches-Shifts : (low max value front span : ℕ) → Shifts max value front span → 0 < value → low < front + span → Reaches low max value
Reaches-Shifts low max value front span shifts some above =
    let f = shifts.front_is in
    let s = shifts.span_is in
    let within = shifts.within in
    let next = tens-next value shifts.count in
    record { count = shifts.count; lone = λ e. absurd (omega arith); below = omega arith; above = omega arith }

-- where no zero more fits, nothing else reaches further
pub Reaches-full : (low max value front span : ℕ) → Shifts max value front span → max < front * 10 → front + span ≤ low → Reaches low max value → ⊥
Reaches-full low max value front span shifts full below reaches =
    let f = shifts.front_is in
    let s = shifts.span_is in
    let under = reaches.below in
    let over = reaches.above in
    let more : suc shifts.count ≤ reaches.count → ⊥ = λ longer.
    let high : value * 10 ^ suc shifts.count ≤ value * 10 ^ reaches.count = mul-le-mul_left value (tens_mono (suc shifts.count) reaches.count longer) in
    let e : value * 10 ^ suc shifts.count ≡ front * 10 =
    ap (λ n. value * n) (pow-suc 10 shifts.count) ∙ sym (mul_assoc value (10 ^ shifts.count) 10) ∙ ap (λ n. n * 10) (sym f) in
    omega arith in
    let less : reaches.count ≤ shifts.count → ⊥ = λ shorter.
    let high : (value + 1) * 10 ^ reaches.count ≤ (value + 1) * 10 ^ shifts.count = mul-le-mul_left (value + 1) (tens_mono reaches.count shifts.count shorter) in
    let e = tens-next value shifts.count in
    omega arith in
    less (omega (arith, more))
