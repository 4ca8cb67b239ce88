use Rattle.std.proofs.Common.{◌≡◌, ℕ, ◌+◌, ◌-◌, ◌*◌, ◌≤◌, ◌<◌, ◌^◌, List, [], ◌∷◌, ◌++◌, length, Bool, true, false, inl, inr, refl, sym, ap, ◌∙◌, subst, arith}
use Rattle.std.specs.Fmt.{decimal}
use Rattle.std.proofs.lemmas.Bool.Decides.{nat_tests}
use Rattle.std.proofs.lemmas.Fmt.{length-decimal-le}
use Rattle.std.proofs.lemmas.List.{length-append}
use Rattle.hb_grammar.specs.declared.class.Class.{Class}
use Rattle.hb_grammar.specs.declared.class.Class.TheVariants.{Digit, LowerHex, Name, NameStart, FamilyStart, Component}
use Rattle.hb_grammar.specs.Class.{has, is_digit, AllIn}
use Rattle.hb_grammar.specs.Run.{IsRun, IsExactly}
use Rattle.hb_grammar.specs.Numeral.{IsNumeral}
use Rattle.hb_grammar.proofs.Digits.{DigitsAfter, AreDigits}
use Rattle.hb_grammar.specs.Joined.{Joined}
use Rattle.hb_grammar.specs.Marked.{Marked}
use Rattle.hb_grammar.specs.Either.{EitherOf}
use Rattle.hb_grammar.proofs.NumeralLemmas.{AreDigits-IsNumeral}
use Rattle.hb_names.specs.Component.{IsComponent}
use Rattle.hb_names.specs.ComponentGrammar.{AllDots}

-- strings of the grammar are no longer than so many bytes, all of them of a component
pub record IsShort (spells : List ℕ → Type 0) (most : ℕ) : Type 0 where
  pub short : (bytes : List ℕ) → spells bytes → length bytes ≤ most
  pub each : (bytes : List ℕ) → spells bytes → AllIn Component bytes

-- no string of the grammar is dots alone, nor empty
abbrev pub HasMore : (List ℕ → Type 0) → Type 0
HasMore spells = (bytes : List ℕ) → spells bytes → AllDots bytes → ⊥

-- a byte of any class is one of a component
Component-has : (class : Class) (byte : ℕ) → has class byte ≡ true → has Component byte ≡ true
unfolding has
Component-has Digit byte e = grind (arith, nat_tests)
Component-has LowerHex byte e = grind (arith, nat_tests)
Component-has Name byte e = grind (arith, nat_tests)
Component-has NameStart byte e = grind (arith, nat_tests)
Component-has FamilyStart byte e = grind (arith, nat_tests)
Component-has Component byte e = e

-- so are all bytes
AllIn-Component : (class : Class) (bytes : List ℕ) → AllIn class bytes → AllIn Component bytes
AllIn-Component class [] each = tt
AllIn-Component class (byte ∷ bytes) each = (Component-has class byte each.0, AllIn-Component class bytes each.1)

-- two parts of such bytes
pub AllIn-append : (xs ys : List ℕ) → AllIn Component xs → AllIn Component ys → AllIn Component (xs ++ ys)
AllIn-append [] ys a b = b
AllIn-append (x ∷ xs) ys a b = (a.0, AllIn-append xs ys a.1 b)

-- the front of dots alone
AllDots-front : (xs ys : List ℕ) → AllDots (xs ++ ys) → AllDots xs
AllDots-front [] ys dots = tt
AllDots-front (x ∷ xs) ys dots = (dots.0, AllDots-front xs ys dots.1)

-- a digit is a byte of a component
Component-is_digit : (byte : ℕ) → is_digit byte ≡ true → has Component byte ≡ true
unfolding has
Component-is_digit byte e = grind (arith, nat_tests)

-- so are digits behind others
AllIn-DigitsAfter : (max value : ℕ) (bytes : List ℕ) → DigitsAfter max value bytes → AllIn Component bytes
AllIn-DigitsAfter max value [] after = tt
AllIn-DigitsAfter max value (digit ∷ digits) after =
    (Component-is_digit digit after.1, AllIn-DigitsAfter max (value * 10 + (digit - 48)) digits after.2)

-- so are all digits of a number
AllIn-AreDigits : (positive : Bool) (max : ℕ) (bytes : List ℕ) → AreDigits positive max bytes → AllIn Component bytes
AllIn-AreDigits positive max [] digits = absurd digits
AllIn-AreDigits positive max (digit ∷ digits) all = (Component-is_digit digit all.0, AllIn-DigitsAfter max (digit - 48) digits all.2)

-- a run is no longer than its bound
pub IsShort-IsRun : (class : Class) (low high : ℕ) → IsShort (IsRun class low high) high
IsShort-IsRun class low high = record { short = λ bytes run. run.most; each = λ bytes run. AllIn-Component class bytes run.each }

-- so many bytes are so many
pub IsShort-IsExactly : (class : Class) (count : ℕ) → IsShort (IsExactly class count) count
IsShort-IsExactly class count =
    record { short = λ bytes run. let long = run.long in omega arith; each = λ bytes run. AllIn-Component class bytes run.each }

-- one text is as long as it is
pub IsShort-text : (text : List ℕ) → AllIn Component text → IsShort (λ bytes. bytes ≡ text) (length text)
IsShort-text text each = record {
  short = λ bytes e. let same = ap length e in omega arith;
  each = λ bytes e. subst (AllIn Component) (sym e) each;
}

-- a number up to 2 ^ 63 - 1 has at most 19 digits
pub IsShort-IsNumeral : (low : ℕ) → IsShort (IsNumeral low 9_223_372_036_854_775_807) 19
IsShort-IsNumeral low = record {
  short = λ bytes numeral.
      let within = numeral.most in
      subst (λ (x : List ℕ). length x ≤ 19) (sym numeral.text) (length-decimal-le 19 numeral.number (omega arith) (omega arith) (omega arith));
  each = λ bytes numeral.
      AllIn-AreDigits false 9_223_372_036_854_775_807 bytes (AreDigits-IsNumeral low 9_223_372_036_854_775_807 bytes (omega arith) numeral);
}

-- two parts are no longer than both bounds
pub IsShort-Joined : (first second : List ℕ → Type 0) (m n : ℕ) → IsShort first m → IsShort second n → IsShort (Joined first second) (m + n)
IsShort-Joined first second m n a b = record {
  short = λ bytes pair.
      let front = a.short pair.front pair.in_first in
      let back = b.short pair.back pair.in_second in
      let whole = ap length pair.whole ∙ length-append pair.front pair.back in omega arith;
  each = λ bytes pair. subst (AllIn Component) (sym pair.whole)
      (AllIn-append pair.front pair.back (a.each pair.front pair.in_first) (b.each pair.back pair.in_second));
}

-- a mark is one byte more
pub IsShort-Marked : (inner : List ℕ → Type 0) (mark m : ℕ) → has Component mark ≡ true → IsShort inner m → IsShort (Marked inner mark) (m + 1)
IsShort-Marked inner mark m inside a = record {
  short = λ bytes marked.
      let front = a.short marked.front marked.in_inner in
      let whole = ap length marked.whole ∙ length-append marked.front (mark ∷ []) in omega arith;
  each = λ bytes marked. subst (AllIn Component) (sym marked.whole)
      (AllIn-append marked.front (mark ∷ []) (a.each marked.front marked.in_inner) (inside, tt));
}

-- one of two is no longer than the greater bound
pub IsShort-EitherOf : (left right : List ℕ → Type 0) (m n most : ℕ) → m ≤ most → n ≤ most → IsShort left m → IsShort right n → IsShort (EitherOf left right) most
IsShort-EitherOf left right m n most le le' a b = record {
  short = λ bytes either. elim either as (λ _. length bytes ≤ most)
      [ inl x ↦ let short = a.short bytes x in omega arith | inr y ↦ let short = b.short bytes y in omega arith ];
  each = λ bytes either. elim either as (λ _. AllIn Component bytes) [ inl x ↦ a.each bytes x | inr y ↦ b.each bytes y ];
}

-- a first byte of a class without the dot
HasMore-first : (class : Class) (bytes : List ℕ) → has class 46 ≡ false → 0 < length bytes → AllIn class bytes → AllDots bytes → ⊥
HasMore-first class [] outside some each dots = omega arith
HasMore-first class (byte ∷ bytes) outside some each dots =
    let dot : has class byte ≡ has class 46 = ap (has class) dots.0 in let inside : has class byte ≡ true = each.0 in cc

-- so many bytes of a class without the dot are not dots alone
pub HasMore-IsExactly : (class : Class) (count : ℕ) → has class 46 ≡ false → 0 < count → HasMore (IsExactly class count)
HasMore-IsExactly class count outside some bytes run dots = let long = run.long in HasMore-first class bytes outside (omega arith) run.each dots

-- nor are two parts whose first is not
pub HasMore-Joined : (first second : List ℕ → Type 0) → HasMore first → HasMore (Joined first second)
HasMore-Joined first second a bytes pair dots =
    a pair.front pair.in_first (AllDots-front pair.front pair.back (subst AllDots pair.whole dots))

-- nor is a string with a mark that is not without it
pub HasMore-Marked : (inner : List ℕ → Type 0) (mark : ℕ) → HasMore inner → HasMore (Marked inner mark)
HasMore-Marked inner mark a bytes marked dots =
    a marked.front marked.in_inner (AllDots-front marked.front (mark ∷ []) (subst AllDots marked.whole dots))

-- nor is one of two that are not
pub HasMore-EitherOf : (left right : List ℕ → Type 0) → HasMore left → HasMore right → HasMore (EitherOf left right)
HasMore-EitherOf left right a b bytes either dots = elim either as (λ _. ⊥) [ inl x ↦ a bytes x dots | inr y ↦ b bytes y dots ]

-- a digit is no dot
not_dot : (byte : ℕ) → is_digit byte ≡ true → byte ≡ 46 → ⊥
not_dot byte e same = grind (arith, nat_tests)

-- digits are not dots alone
HasMore-AreDigits : (positive : Bool) (max : ℕ) (bytes : List ℕ) → AreDigits positive max bytes → AllDots bytes → ⊥
HasMore-AreDigits positive max [] digits dots = digits
HasMore-AreDigits positive max (digit ∷ digits) all dots = not_dot digit all.0 dots.0

-- so a numeral is not
pub HasMore-IsNumeral : (low max : ℕ) → max < 2 ^ 64 → HasMore (IsNumeral low max)
HasMore-IsNumeral low max small bytes numeral = HasMore-AreDigits false max bytes (AreDigits-IsNumeral low max bytes small numeral)

-- what is not dots alone has a byte
some_byte : (bytes : List ℕ) → (AllDots bytes → ⊥) → 1 ≤ length bytes
some_byte [] more = absurd (more tt)
some_byte (byte ∷ bytes) more = omega arith

-- strings that are short and no dots alone are components
pub IsComponent-IsShort : (spells : List ℕ → Type 0) (most : ℕ) → most ≤ 255 → IsShort spells most → HasMore spells → (bytes : List ℕ) → spells bytes → IsComponent bytes
IsComponent-IsShort spells most le short more bytes spelled =
    let most' = short.short bytes spelled in
    record {
      least = some_byte bytes (more bytes spelled);
      most = omega arith;
      each = short.each bytes spelled;
      not_dot = λ e. more bytes spelled (subst AllDots (sym e) (refl, tt));
      not_two_dots = λ e. more bytes spelled (subst AllDots (sym e) (refl, (refl, tt)));
    }
