use Rattle.std.proofs.Common.{◌≡◌, ℕ, ◌+◌, ◌*◌, ◌-◌, ◌/◌, ◌%◌, ◌^◌, ◌<◌, ◌≤◌, List, [], ◌∷◌, ◌++◌, arith, ap, subst, sym, ◌∙◌, refl, Bool, true, false}
use Rattle.std.specs.Fmt.{decimal}
use Rattle.std.proofs.lemmas.Fmt.{decimal_by_steps}
use Rattle.std.proofs.lemmas.Bool.Decides.{nat_tests}
use Rattle.hb_grammar.specs.Class.{is_digit}
use Rattle.hb_grammar.proofs.Digits.{DigitsAfter, AreDigits}
use Rattle.hb_grammar.proofs.NumberLemmas.{value_after, AreDigits-le}

-- one digit more behind digits whose number is not 0
DigitsAfter-push : (max value digit : ℕ) (digits : List ℕ) → DigitsAfter max value digits → 0 < value_after value digits → is_digit digit ≡ true →
    DigitsAfter (value_after value digits * 10 + (digit - 48)) value (digits ++ digit ∷ [])
DigitsAfter-push max value digit [] after some e = (some, e, omega arith)
DigitsAfter-push max value digit (first ∷ digits) after some e =
    (after.0, after.1, DigitsAfter-push max (value * 10 + (first - 48)) digit digits after.2 some e)

-- the number that digits stand for, with one more behind them
value_after-push : (value digit : ℕ) (digits : List ℕ) → value_after value (digits ++ digit ∷ []) ≡ value_after value digits * 10 + (digit - 48)
value_after-push value digit [] = refl
value_after-push value digit (first ∷ digits) = value_after-push (value * 10 + (first - 48)) digit digits

-- the digits are a numeral of the number, up to the number itself
record Writes (number : ℕ) (digits : List ℕ) : Type 0 where
  numeral : (positive : Bool) → (positive ≡ true → 0 < number) → AreDigits positive number digits
  value : value_after 0 digits ≡ number

-- one digit
Writes-one : (number : ℕ) → number < 10 → Writes number ((48 + number) ∷ [])
Writes-one number small = record {
  numeral = λ positive some. (grind (arith, nat_tests), λ e. let low = some e in omega arith, omega arith);
  value = omega arith;
}

-- one digit more
Writes-push : (number : ℕ) (digits : List ℕ) → 10 ≤ number → Writes (number / 10) digits → Writes number (digits ++ (48 + number % 10) ∷ [])
Writes-push number [] large writes = absurd (writes.numeral false (λ e. cc))
Writes-push number (first ∷ digits) large writes =
    let numeral = writes.numeral true (λ _. omega arith) in
    let e : 0 * 10 + (first - 48) ≡ first - 48 = omega arith in
    let front : value_after (first - 48) digits ≡ number / 10 = sym (ap (λ n. value_after n digits) e) ∙ writes.value in
    let digit : is_digit (48 + number % 10) ≡ true = grind (arith, nat_tests) in
    let pushed = DigitsAfter-push (number / 10) (first - 48) (48 + number % 10) digits numeral.2 (omega arith) digit in
    let whole : value_after (first - 48) digits * 10 + (48 + number % 10 - 48) ≡ number = omega arith in
    record {
      numeral = λ positive some. (
        numeral.0,
        λ _. numeral.1 refl,
        subst (λ n. DigitsAfter n (first - 48) (digits ++ (48 + number % 10) ∷ [])) whole pushed,
      );
      value = value_after-push (0 * 10 + (first - 48)) (48 + number % 10) digits ∙ ap (λ n. value_after n digits * 10 + (48 + number % 10 - 48)) e ∙ whole;
    }

-- a number that is not above a limit is written as a numeral up to it
pub AreDigits-decimal : (positive : Bool) (max number : ℕ) → (positive ≡ true → 0 < number) → number ≤ max → number < 2 ^ 64 →
    AreDigits positive max (decimal number)
AreDigits-decimal positive max number some within small =
    let writes = decimal_by_steps Writes Writes-one Writes-push number small in
    AreDigits-le positive number max (decimal number) within (writes.numeral positive some)

-- a number is what its decimal stands for
pub value_after-decimal : (number : ℕ) → number < 2 ^ 64 → value_after 0 (decimal number) ≡ number
value_after-decimal number small = let writes = decimal_by_steps Writes Writes-one Writes-push number small in writes.value
