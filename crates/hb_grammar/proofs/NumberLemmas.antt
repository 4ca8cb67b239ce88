use Rattle.std.proofs.Common.{◌≡◌, ℕ, ◌+◌, ◌*◌, ◌-◌, ◌<◌, ◌≤◌, List, [], ◌∷◌, length, drop, get_or, refl, arith, rules, ◌^◌, subst, sym, Bool, true, false}
use Rattle.std.specs.Fmt.{decimal}
use Rattle.std.proofs.lemmas.Fmt.{decimal-digits_value}
use Rattle.std.proofs.lemmas.List.{drop_more, drop_all}
use Rattle.std.proofs.lemmas.Str.Parse.{IsNumeralModel, numerals_by_fold}
use Rattle.std.proofs.lemmas.Bool.Decides.{nat_tests}
use Rattle.hb_grammar.specs.Class.{is_digit}
use Rattle.hb_grammar.proofs.Digits.{DigitsAfter, AreDigits}

-- the number that digits stand for, behind those of a number
abbrev pub value_after : ℕ → List ℕ → ℕ
value_after value [] = value
value_after value (digit ∷ digits) = value_after (value * 10 + (digit - 48)) digits

-- digits alone
abbrev pub AllDigits : List ℕ → Type 0
AllDigits [] = Unit {0}
AllDigits (digit ∷ digits) = (is_digit digit ≡ true) × AllDigits digits

-- these are std's words for digits and their number
pub digits_model : IsNumeralModel AllDigits (value_after 0)
digits_model = numerals_by_fold _ (search rules) value_after (search rules)

-- the digits behind a number's first ones are digits
AllDigits-DigitsAfter : (max value : ℕ) (bytes : List ℕ) → DigitsAfter max value bytes → AllDigits bytes
AllDigits-DigitsAfter max value [] after = tt
AllDigits-DigitsAfter max value (digit ∷ digits) after = (after.1, AllDigits-DigitsAfter max (value * 10 + (digit - 48)) digits after.2)

-- the number so far is not above the limit
pub le-DigitsAfter : (max value : ℕ) (bytes : List ℕ) → DigitsAfter max value bytes → value ≤ max
le-DigitsAfter max value [] after = after
le-DigitsAfter max value (digit ∷ digits) after = let more = le-DigitsAfter max (value * 10 + (digit - 48)) digits after.2 in omega arith

-- nor is the whole number
value_after-le : (max value : ℕ) (bytes : List ℕ) → DigitsAfter max value bytes → value_after value bytes ≤ max
value_after-le max value [] after = after
value_after-le max value (digit ∷ digits) after = value_after-le max (value * 10 + (digit - 48)) digits after.2

-- a digit is not below the digit 0
le-is_digit : (byte : ℕ) → is_digit byte ≡ true → 48 ≤ byte
le-is_digit byte e = grind (arith, nat_tests)

-- nothing stands behind a leading zero
length-DigitsAfter : (max : ℕ) (bytes : List ℕ) → DigitsAfter max 0 bytes → length bytes ≡ 0
length-DigitsAfter max [] after = refl
length-DigitsAfter max (digit ∷ digits) after = absurd (omega (arith, after.0))

-- where the first digit is 0, it is the only one
lone-zero : (max digit : ℕ) (digits : List ℕ) → DigitsAfter max (digit - 48) digits → digit ≡ 48 → length (digit ∷ digits) ≡ 1
lone-zero max digit digits after e =
    let none = length-DigitsAfter max digits (subst (λ (n : ℕ). DigitsAfter max (n - 48) digits) e after) in omega arith

-- a numeral's number is not above its limit
pub value_after-AreDigits : (positive : Bool) (max : ℕ) (bytes : List ℕ) → AreDigits positive max bytes → value_after 0 bytes ≤ max
value_after-AreDigits positive max [] numeral = absurd numeral
value_after-AreDigits positive max (digit ∷ digits) numeral =
    let e : 0 * 10 + (digit - 48) ≡ digit - 48 = omega arith in
    subst (λ (n : ℕ). value_after n digits ≤ max) (sym e) (value_after-le max (digit - 48) digits numeral.2)

-- a numeral is the decimal of its number
pub decimal-value_after : (positive : Bool) (max : ℕ) (bytes : List ℕ) → max < 2 ^ 64 → AreDigits positive max bytes → decimal (value_after 0 bytes) ≡ bytes
decimal-value_after positive max [] small numeral = absurd numeral
decimal-value_after positive max (digit ∷ digits) small numeral =
    let all : AllDigits (digit ∷ digits) = (numeral.0, AllDigits-DigitsAfter max (digit - 48) digits numeral.2) in
    let value : value_after 0 (digit ∷ digits) ≤ max = value_after-AreDigits positive max (digit ∷ digits) numeral in
    decimal-digits_value digits_model (digit ∷ digits) all (omega arith) (lone-zero max digit digits numeral.2) (omega arith)

-- the digits that are left behind a number make the whole number
pub record Leaves (max value : ℕ) (rest : List ℕ) (whole : ℕ) : Type 0 where
  pub digits : DigitsAfter max value rest
  pub same : value_after value rest ≡ whole

-- a number takes a digit more, and what is left behind both makes the whole number
pub record Takes (max value digit : ℕ) (rest : List ℕ) (whole : ℕ) : Type 0 where
  pub in_class : is_digit digit ≡ true
  pub low : 48 ≤ digit
  pub bound : value * 10 + (digit - 48) ≤ max
  pub leaves : Leaves max (value * 10 + (digit - 48)) rest whole

-- the digit at an index is the next that a number takes
pub Takes-get_or : (max value whole i : ℕ) (bytes : List ℕ) → i < length bytes → Leaves max value (drop i bytes) whole →
    Takes max value (get_or bytes i 0) (drop (i + 1) bytes) whole
Takes-get_or max value whole i bytes below leaves =
    let at : Leaves max value (get_or bytes i 0 ∷ drop (i + 1) bytes) whole =
    subst (λ (x : List ℕ). Leaves max value x whole) (drop_more bytes i 0 below) leaves in
    record {
      in_class = at.digits.1;
      low = le-is_digit (get_or bytes i 0) at.digits.1;
      bound = le-DigitsAfter max (value * 10 + (get_or bytes i 0 - 48)) (drop (i + 1) bytes) at.digits.2;
      leaves = record { digits = at.digits.2; same = at.same };
    }

-- the first digit of a numeral is the first that a number takes
pub Takes-AreDigits : (max : ℕ) (bytes : List ℕ) → AreDigits false max bytes → Takes max 0 (get_or bytes 0 0) (drop 1 bytes) (value_after 0 bytes)
Takes-AreDigits max [] numeral = absurd numeral
Takes-AreDigits max (digit ∷ digits) numeral =
    let e : 0 * 10 + (digit - 48) ≡ digit - 48 = omega arith in
    record {
      in_class = numeral.0;
      low = le-is_digit digit numeral.0;
      bound = subst (λ (n : ℕ). n ≤ max) (sym e) (le-DigitsAfter max (digit - 48) digits numeral.2);
      leaves = record { digits = subst (λ (n : ℕ). DigitsAfter max n digits) (sym e) numeral.2; same = refl };
    }

-- behind the last digit the number is whole
pub Leaves-drop_all : (max value whole i : ℕ) (bytes : List ℕ) → length bytes ≤ i → Leaves max value (drop i bytes) whole → value ≡ whole
Leaves-drop_all max value whole i bytes past leaves =
    let none : Leaves max value [] whole = subst (λ (x : List ℕ). Leaves max value x whole) (drop_all i bytes past) leaves in none.same

-- a numeral has a digit
pub length-AreDigits : (positive : Bool) (max : ℕ) (bytes : List ℕ) → AreDigits positive max bytes → 0 < length bytes
length-AreDigits positive max [] numeral = absurd numeral
length-AreDigits positive max (digit ∷ digits) numeral = omega arith

-- a higher limit for the digits behind
DigitsAfter-le : (low high value : ℕ) (digits : List ℕ) → low ≤ high → DigitsAfter low value digits → DigitsAfter high value digits
DigitsAfter-le low high value [] le after = omega arith
DigitsAfter-le low high value (first ∷ digits) le after =
    (after.0, after.1, DigitsAfter-le low high (value * 10 + (first - 48)) digits le after.2)

-- a higher limit
pub AreDigits-le : (positive : Bool) (low high : ℕ) (bytes : List ℕ) → low ≤ high → AreDigits positive low bytes → AreDigits positive high bytes
AreDigits-le positive low high [] le numeral = numeral
AreDigits-le positive low high (first ∷ digits) le numeral = (numeral.0, numeral.1, DigitsAfter-le low high (first - 48) digits le numeral.2)

-- a number that is to be positive is one that need not be
pub AreDigits-positive : (positive : Bool) (max : ℕ) (bytes : List ℕ) → AreDigits positive max bytes → AreDigits false max bytes
AreDigits-positive positive max [] numeral = numeral
AreDigits-positive positive max (first ∷ digits) numeral = (numeral.0, λ e. absurd (cc e), numeral.2)
