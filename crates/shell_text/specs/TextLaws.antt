-- What was read of a text can be completed.
use Rattle.std.proofs.Common.{◌≡◌, ℕ, zero, suc, ◌+◌, ◌*◌, List, [], ◌∷◌, Bool, true, false, ◌||◌, Option, Some, None, option_map, cond, refl, sym, ap, ◌∙◌, subst, replicate, ◌⊎◌, inl, inr}
use Rattle.std.specs.List.{AllByRecursion, list_any}
use Rattle.hb_grammar.specs.Grammar.{IsLive}
use Rattle.hb_grammar.specs.declared.class.Class.{Class}
use Rattle.hb_grammar.specs.declared.class.Class.TheVariants.{Digit, LowerHex, NameStart, FamilyStart, Name, Component}
use Rattle.hb_grammar.specs.Class.{has}
use Rattle.shell_text.specs.declared.argument.Argument.{Argument}
use Rattle.shell_text.specs.declared.argument.Argument.TheVariants.{Named, Run, Column, Qualifier, Part, OneDot, TwoDots}
use Rattle.shell_text.specs.declared.text.Place.{Place}
use Rattle.shell_text.specs.declared.text.Place.TheVariants.{Between, Escape, First, Second}
use Rattle.shell_text.specs.Argument.{Means, IsLeft, has_byte, is_open, next}
use Rattle.shell_text.specs.Text.{Holds, TextFrom, can_escape, digit_value, has_value, is_open_at, is_plain, lower_digits, meaning}

-- each byte stands for itself
abbrev pub ArePlain : List ℕ → Type 0
ArePlain bytes = AllByRecursion (λ byte. is_plain byte ≡ true) bytes

-- a meaning of plain bytes
pub record PlainMeaning (argument : Argument) : Type 0 where
  pub bytes : List ℕ
  pub means : Means argument bytes
  pub plain : ArePlain bytes

-- each class has the digit 0
has-zero : (class : Class) → has class 48 ≡ true
unfolding has
has-zero Digit = refl
has-zero LowerHex = refl
has-zero NameStart = refl
has-zero FamilyStart = refl
has-zero Name = refl
has-zero Component = refl

-- so has each run
has_byte-zero : (class : Option Class) → has_byte class 48 ≡ true
has_byte-zero None = refl
has_byte-zero (Some class) = has-zero class

-- a choice whose test holds, and one whose test fails
pub cond_true : {V : Type 0} (b : Bool) (x y : V) → b ≡ true → cond b x y ≡ x
cond_true true x y e = refl
cond_true false x y e = absurd (cc)

pub cond_false : {V : Type 0} (b : Bool) (x y : V) → b ≡ false → cond b x y ≡ y
cond_false true x y e = absurd (cc)
cond_false false x y e = refl

-- so many zeros complete a run
Means-zeros : (class : Option Class) (least more : ℕ) → Means (Run class least more) (replicate least 48)
Means-zeros class zero more = refl
Means-zeros class (suc least) more =
    subst (IsLeft (replicate least 48)) (sym (cond_true (has_byte class 48) _ _ (has_byte-zero class))) (Means-zeros class least more)

-- zeros are plain
ArePlain-zeros : (count : ℕ) → ArePlain (replicate count 48)
ArePlain-zeros zero = tt
ArePlain-zeros (suc count) = (refl, ArePlain-zeros count)

-- each argument has a meaning of plain bytes
plain_meaning : (argument : Argument) → PlainMeaning argument
unfolding has
plain_meaning (Named first more) = record { bytes = 48 ∷ []; means = subst (IsLeft []) (sym (cond_true (has first 48) _ _ (has-zero first))) refl; plain = (refl, tt) }
plain_meaning (Run class least more) = record { bytes = replicate least 48; means = Means-zeros class least more; plain = ArePlain-zeros least }
plain_meaning Column = record { bytes = 48 ∷ 58 ∷ []; means = refl; plain = (refl, (refl, tt)) }
plain_meaning (Qualifier more) = record { bytes = 58 ∷ []; means = refl; plain = (refl, tt) }
plain_meaning Part = record { bytes = 48 ∷ []; means = refl; plain = (refl, tt) }
plain_meaning OneDot = record { bytes = 48 ∷ []; means = refl; plain = (refl, tt) }
plain_meaning TwoDots = record { bytes = 48 ∷ []; means = refl; plain = (refl, tt) }

-- plain bytes mean themselves
pub meaning-plain : (bytes : List ℕ) → ArePlain bytes → meaning Between bytes ≡ Some bytes
meaning-plain [] plain = refl
meaning-plain (byte ∷ bytes) plain =
    cond_true (is_plain byte) _ _ plain.0 ∙ ap (λ (o : Option (List ℕ)). option_map (λ rest. byte ∷ rest) o) (meaning-plain bytes plain.1)

-- a value that is there
value_of : {V : Type 0} (o : Option V) → has_value o ≡ true → (v : V) × (o ≡ Some v)
value_of None e = absurd (cc)
value_of (Some v) e = (v, refl)

-- a byte that an argument goes on with has a text behind it
behind_byte : (argument : Argument) (byte : ℕ) → has_value (next argument byte) ≡ true →
    (bytes : List ℕ) × Holds (option_map (λ rest. byte ∷ rest) (meaning Between bytes)) (Means argument)
behind_byte argument byte e =
    let found = value_of (next argument byte) e in
    let more = plain_meaning found.0 in
    let means : Means argument (byte ∷ more.bytes) = subst (IsLeft more.bytes) (sym found.1) more.means in
    (more.bytes, subst (λ o. Holds (option_map (λ rest. byte ∷ rest) o) (Means argument)) (sym (meaning-plain more.bytes more.plain)) means)

-- an escape of the digit 0, and one of a colon
First-zero : (bytes : List ℕ) → meaning First (51 ∷ 48 ∷ bytes) ≡ option_map (λ rest. 48 ∷ rest) (meaning Between bytes)
unfolding has
First-zero bytes = refl

First-colon : (bytes : List ℕ) → meaning First (51 ∷ 97 ∷ bytes) ≡ option_map (λ rest. 58 ∷ rest) (meaning Between bytes)
unfolding has
First-colon bytes = refl

-- an argument that is open goes on with 0 or with a colon
open_byte : (argument : Argument) → is_open argument ≡ true → (has_value (next argument 48) ≡ true) ⊎ (has_value (next argument 58) ≡ true)
unfolding has
open_byte (Named first more) e = inl (ap has_value (cond_true (has first 48) _ _ (has-zero first)))
open_byte (Run class (suc least) more) e = inl (ap has_value (cond_true (has_byte class 48) _ _ (has_byte-zero class)))
open_byte (Run class zero (suc more)) e = inl (ap has_value (cond_true (has_byte class 48) _ _ (has_byte-zero class)))
open_byte (Run class zero zero) e = absurd (cc)
open_byte Column e = inl refl
open_byte (Qualifier more) e = inr refl
open_byte Part e = inl refl
open_byte OneDot e = inl refl
open_byte TwoDots e = inl refl

-- so its escape has two digits that are to come
IsLive-First : (argument : Argument) → is_open argument ≡ true → IsLive (TextFrom First argument)
IsLive-First argument e = elim (open_byte argument e) as (λ _. IsLive (TextFrom First argument)) [
  | inl taken ↦ let more = behind_byte argument 48 taken in (51 ∷ 48 ∷ more.0, subst (λ o. Holds o (Means argument)) (sym (First-zero more.0)) more.1)
  | inr taken ↦ let more = behind_byte argument 58 taken in (51 ∷ 97 ∷ more.0, subst (λ o. Holds o (Means argument)) (sym (First-colon more.0)) more.1)
]

-- a value that passes a test and has a property
pub record Found (test : ℕ → Bool) (Q : ℕ → Type 0) : Type 0 where
  pub value : ℕ
  pub has : Q value
  pub passes : test value ≡ true

found_at : (test : ℕ → Bool) (Q : ℕ → Type 0) (x : ℕ) (others : Bool) → Q x → (b : Bool) → test x ≡ b → b || others ≡ true →
    (others ≡ true → Found test Q) → Found test Q
found_at test Q x others q true e any more = record { value = x; has = q; passes = e }
found_at test Q x others q false e any more = more any

-- one of some values that each have a property passes a test
find : (test : ℕ → Bool) (Q : ℕ → Type 0) (xs : List ℕ) → AllByRecursion Q xs → list_any test xs ≡ true → Found test Q
find test Q [] all any = absurd (cc)
find test Q (x ∷ xs) all any = found_at test Q x (list_any test xs) all.0 (test x) refl any (λ more. find test Q xs all.1 more)

-- the digits are digits
are_digits : AllByRecursion (λ digit. has LowerHex digit ≡ true) lower_digits
unfolding has
are_digits = (refl, (refl, (refl, (refl, (refl, (refl, (refl, (refl, (refl, (refl, (refl, (refl, (refl, (refl, (refl, (refl, tt))))))))))))))))

-- an escape of which one digit was read has another that is to come
IsLive-Second : (argument : Argument) (high : ℕ) → is_open_at argument high ≡ true → IsLive (TextFrom (Second high) argument)
IsLive-Second argument high e =
    let found = find (λ digit. has_value (next argument (16 * high + digit_value digit))) (λ digit. has LowerHex digit ≡ true) lower_digits are_digits e in
    let more = behind_byte argument (16 * high + digit_value found.value) found.passes in
    (found.value ∷ more.0, subst (λ o. Holds o (Means argument)) (sym (cond_true (has LowerHex found.value) _ _ found.has)) more.1)

-- whatever was read of a text can be completed
pub IsLive-TextFrom : (place : Place) (argument : Argument) → can_escape place argument ≡ true → IsLive (TextFrom place argument)
IsLive-TextFrom Between argument e =
    let some = plain_meaning argument in
    (some.bytes, subst (λ o. Holds o (Means argument)) (sym (meaning-plain some.bytes some.plain)) some.means)
IsLive-TextFrom Escape argument e = let more = IsLive-First argument e in (120 ∷ more.0, more.1)
IsLive-TextFrom First argument e = IsLive-First argument e
IsLive-TextFrom (Second high) argument e = IsLive-Second argument high e
