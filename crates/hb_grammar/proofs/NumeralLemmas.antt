use Rattle.std.proofs.Common.{◌≡◌, ℕ, ◌+◌, ◌*◌, ◌-◌, ◌^◌, ◌<◌, ◌≤◌, List, [], ◌∷◌, false, None, arith, sym, subst, ◌∙◌}
use Rattle.std.specs.Fmt.{decimal}
use Rattle.std.proofs.lemmas.Fmt.{decimal_injective}
use Rattle.hb_grammar.specs.Grammar.{Same}
use Rattle.hb_grammar.specs.Class.{is_digit}
use Rattle.hb_grammar.specs.Marked.{Avoids}
use Rattle.hb_grammar.proofs.Digits.{DigitsAfter, AreDigits}
use Rattle.hb_grammar.specs.Between.{DigitsBetween, BetweenFrom}
use Rattle.hb_grammar.specs.Numeral.{IsNumeral}
use Rattle.hb_grammar.proofs.AvoidsLemmas.{Free, Avoids-Free, Free-AreDigits}
use Rattle.hb_grammar.proofs.NumberLemmas.{value_after, value_after-AreDigits, decimal-value_after}
use Rattle.hb_grammar.proofs.DecimalLemmas.{AreDigits-decimal, value_after-decimal}

-- digits of a number between two are those of one up to the higher
DigitsAfter-DigitsBetween : (low max value : ℕ) (bytes : List ℕ) → DigitsBetween low max value bytes → DigitsAfter max value bytes
DigitsAfter-DigitsBetween low max value [] left = left.1
DigitsAfter-DigitsBetween low max value (digit ∷ digits) left =
    (left.0, left.1, DigitsAfter-DigitsBetween low max (value * 10 + (digit - 48)) digits left.2)

-- and the number is not below the lower
least-DigitsBetween : (low max value : ℕ) (bytes : List ℕ) → DigitsBetween low max value bytes → low ≤ value_after value bytes
least-DigitsBetween low max value [] left = left.0
least-DigitsBetween low max value (digit ∷ digits) left = least-DigitsBetween low max (value * 10 + (digit - 48)) digits left.2

-- digits of a number up to the higher are those of one between two, where it is not below the lower
DigitsBetween-DigitsAfter : (low max value : ℕ) (bytes : List ℕ) → low ≤ value_after value bytes → DigitsAfter max value bytes →
    DigitsBetween low max value bytes
DigitsBetween-DigitsAfter low max value [] least after = (least, after)
DigitsBetween-DigitsAfter low max value (digit ∷ digits) least after =
    (after.0, after.1, DigitsBetween-DigitsAfter low max (value * 10 + (digit - 48)) digits least after.2)

-- a numeral of a number between two is one up to the higher
AreDigits-BetweenFrom : (low max : ℕ) (bytes : List ℕ) → BetweenFrom low max None bytes → AreDigits false max bytes
AreDigits-BetweenFrom low max [] left = left
AreDigits-BetweenFrom low max (digit ∷ digits) left =
    (left.0, λ e. absurd (cc e), DigitsAfter-DigitsBetween low max (digit - 48) digits left.1)

-- and its number is not below the lower
least-BetweenFrom : (low max : ℕ) (bytes : List ℕ) → BetweenFrom low max None bytes → low ≤ value_after 0 bytes
least-BetweenFrom low max [] left = absurd left
least-BetweenFrom low max (digit ∷ digits) left =
    let e : 0 * 10 + (digit - 48) ≡ digit - 48 = omega arith in
    subst (λ n. low ≤ value_after n digits) (sym e) (least-DigitsBetween low max (digit - 48) digits left.1)

-- a numeral up to the higher is one of a number between two, where that is not below the lower
BetweenFrom-AreDigits : (low max : ℕ) (bytes : List ℕ) → low ≤ value_after 0 bytes → AreDigits false max bytes → BetweenFrom low max None bytes
BetweenFrom-AreDigits low max [] least numeral = numeral
BetweenFrom-AreDigits low max (digit ∷ digits) least numeral =
    let e : 0 * 10 + (digit - 48) ≡ digit - 48 = omega arith in
    (numeral.0, DigitsBetween-DigitsAfter low max (digit - 48) digits (subst (λ n. low ≤ value_after n digits) e least) numeral.2)

-- a decimal between two numbers is a numeral up to the higher
pub AreDigits-IsNumeral : (low max : ℕ) (bytes : List ℕ) → max < 2 ^ 64 → IsNumeral low max bytes → AreDigits false max bytes
AreDigits-IsNumeral low max bytes small between =
    let within = between.most in
    subst (AreDigits false max) (sym between.text) (AreDigits-decimal false max between.number (λ e. absurd (cc e)) within (omega arith))

-- the digits of the numbers between two are their decimals
pub Same-IsNumeral : (low max : ℕ) → max < 2 ^ 64 → Same (BetweenFrom low max None) (IsNumeral low max)
Same-IsNumeral low max small = record {
  forth = λ bytes left. let numeral = AreDigits-BetweenFrom low max bytes left in
      record {
        number = value_after 0 bytes;
        least = least-BetweenFrom low max bytes left;
        most = value_after-AreDigits false max bytes numeral;
        text = sym (decimal-value_after false max bytes small numeral);
      };
  back = λ bytes between. let within = between.most in
      let value : value_after 0 (decimal between.number) ≡ between.number = value_after-decimal between.number (omega arith) in
      let least : low ≤ value_after 0 bytes =
      subst (λ x. low ≤ value_after 0 x) (sym between.text) (subst (λ n. low ≤ n) (sym value) between.least) in
      BetweenFrom-AreDigits low max bytes least (AreDigits-IsNumeral low max bytes small between);
}

-- decimals between two numbers lack a byte that is no digit
pub Free-IsNumeral : (low max mark : ℕ) → max < 2 ^ 64 → is_digit mark ≡ false → Free (IsNumeral low max) mark
Free-IsNumeral low max mark small outside bytes between =
    Free-AreDigits false max mark outside bytes (AreDigits-IsNumeral low max bytes small between)

-- a decimal between two numbers has digits alone
pub Avoids-IsNumeral : (low max mark : ℕ) → max < 2 ^ 64 → is_digit mark ≡ false → Avoids (IsNumeral low max) mark
Avoids-IsNumeral low max mark small outside =
    Avoids-Free (IsNumeral low max) mark (Free-IsNumeral low max mark small outside)

-- a number whose decimal is a numeral is from the lower to the higher
pub within-IsNumeral : (low max number : ℕ) (bytes : List ℕ) → number < 2 ^ 64 → max < 2 ^ 64 → decimal number ≡ bytes → IsNumeral low max bytes →
    (low ≤ number) × (number ≤ max)
within-IsNumeral low max number bytes small small' e numeral =
    let least = numeral.least in
    let most = numeral.most in
    let same : numeral.number ≡ number = decimal_injective numeral.number number (omega arith) small (sym numeral.text ∙ sym e) in (omega arith, omega arith)

-- a numeral of a number between two is one between two that are further apart
pub IsNumeral-le : (low low' max max' : ℕ) (bytes : List ℕ) → low' ≤ low → max ≤ max' → IsNumeral low max bytes → IsNumeral low' max' bytes
IsNumeral-le low low' max max' bytes le le' numeral =
    let least = numeral.least in
    let most = numeral.most in
    record { number = numeral.number; least = omega arith; most = omega arith; text = numeral.text }
