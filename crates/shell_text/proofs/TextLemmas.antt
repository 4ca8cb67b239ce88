use Rattle.std.proofs.Common.{◌≡◌, ℕ, zero, suc, ◌+◌, ◌*◌, ◌-◌, ◌<◌, ◌≤◌, List, [], ◌∷◌, Bool, true, false, ◌||◌, ◌&&◌, ◌⊎◌, inl, inr, nat_le, cond, Option, Some, None, option_map, refl, sym, ◌∙◌, subst, nat_eq, arith}
use Rattle.std.proofs.lemmas.Bool.Decides.{nat_tests}
use Rattle.std.specs.List.{AllByRecursion, list_any}
use Rattle.hb_grammar.specs.Grammar.{Follows, Refuses}
use Rattle.hb_grammar.specs.declared.class.Class.TheVariants.{LowerHex}
use Rattle.hb_grammar.specs.Class.{has, is_digit}
use Rattle.shell_text.specs.declared.argument.Argument.{Argument}
use Rattle.shell_text.specs.declared.argument.Argument.TheVariants.{Named, Run, Column, Qualifier, Part, OneDot, TwoDots}
use Rattle.shell_text.specs.declared.text.Place.TheVariants.{Between, Escape, First, Second}
use Rattle.shell_text.specs.Argument.{Means, IsLeft, has_byte, is_open, next}
use Rattle.shell_text.specs.Text.{Holds, TextFrom, digit_value, has_value, is_open_at, is_plain, lower_digits, meaning}
use Rattle.shell_text.specs.TextLaws.{cond_true, cond_false}

-- nothing is left where nothing may be
IsLeft-None : (bytes : List ℕ) → IsLeft bytes None → ⊥
IsLeft-None [] left = left
IsLeft-None (x ∷ xs) left = left

-- a meaning that begins with a byte is what is left behind that byte
map_forth : (argument : Argument) (byte : ℕ) (q : Option Argument) (o : Option (List ℕ)) → next argument byte ≡ q →
    Holds (option_map (λ rest. byte ∷ rest) o) (Means argument) → Holds o (λ rest. IsLeft rest q)
map_forth argument byte q None e h = h
map_forth argument byte q (Some rest) e h = subst (IsLeft rest) e h

map_back : (argument : Argument) (byte : ℕ) (q : Option Argument) (o : Option (List ℕ)) → next argument byte ≡ q →
    Holds o (λ rest. IsLeft rest q) → Holds (option_map (λ rest. byte ∷ rest) o) (Means argument)
map_back argument byte q None e h = h
map_back argument byte q (Some rest) e h = subst (IsLeft rest) (sym e) h

none_left : (o : Option (List ℕ)) → Holds o (λ rest. IsLeft rest None) → ⊥
none_left None h = h
none_left (Some rest) h = IsLeft-None rest h

-- a byte that an argument doesn't go on with begins no meaning
pub refused_byte : (argument : Argument) (byte : ℕ) (o : Option (List ℕ)) → next argument byte ≡ None →
    Holds (option_map (λ rest. byte ∷ rest) o) (Means argument) → ⊥
refused_byte argument byte o e h = none_left o (map_forth argument byte None o e h)

-- a byte that stands for itself
plain_byte : (byte : ℕ) (rest : List ℕ) → is_plain byte ≡ true → meaning Between (byte ∷ rest) ≡ option_map (λ more. byte ∷ more) (meaning Between rest)
plain_byte byte rest e = cond_true (is_plain byte) _ _ e

pub Follows-plain : (argument left : Argument) (byte : ℕ) → is_plain byte ≡ true → next argument byte ≡ Some left →
    Follows (TextFrom Between argument) byte (TextFrom Between left)
Follows-plain argument left byte plain e = record {
  forth = λ rest h. map_forth argument byte (Some left) (meaning Between rest) e (subst (λ o. Holds o (Means argument)) (plain_byte byte rest plain) h);
  back = λ rest h. subst (λ o. Holds o (Means argument)) (sym (plain_byte byte rest plain)) (map_back argument byte (Some left) (meaning Between rest) e h);
}

pub Refuses-plain : (argument : Argument) (byte : ℕ) → is_plain byte ≡ true → next argument byte ≡ None → Refuses (TextFrom Between argument) byte
Refuses-plain argument byte plain e rest h =
    refused_byte argument byte (meaning Between rest) e (subst (λ o. Holds o (Means argument)) (plain_byte byte rest plain) h)

-- another byte than the backslash begins no escape
pub Refuses-other : (argument : Argument) (byte : ℕ) → is_plain byte ≡ false → nat_eq byte 92 ≡ false → Refuses (TextFrom Between argument) byte
Refuses-other argument byte plain other rest h =
    subst (λ o. Holds o (Means argument)) (cond_false (is_plain byte) _ _ plain ∙ cond_false (nat_eq byte 92) _ _ other) h

-- the backslash begins an escape
pub Follows-backslash : (argument : Argument) (byte : ℕ) → byte ≡ 92 → Follows (TextFrom Between argument) byte (TextFrom Escape argument)
Follows-backslash argument byte e =
    subst (λ (b : ℕ). Follows (TextFrom Between argument) b (TextFrom Escape argument)) (sym e) (record { forth = λ rest h. h; back = λ rest h. h })

-- the x of an escape
pub Follows-x : (argument : Argument) (byte : ℕ) → byte ≡ 120 → Follows (TextFrom Escape argument) byte (TextFrom First argument)
Follows-x argument byte e =
    subst (λ (b : ℕ). Follows (TextFrom Escape argument) b (TextFrom First argument)) (sym e) (record { forth = λ rest h. h; back = λ rest h. h })

pub Refuses-x : (argument : Argument) (byte : ℕ) → nat_eq byte 120 ≡ false → Refuses (TextFrom Escape argument) byte
Refuses-x argument byte other rest h = subst (λ o. Holds o (Means argument)) (cond_false (nat_eq byte 120) _ _ other) h

-- the digits of an escape
pub Follows-first : (argument : Argument) (byte : ℕ) → has LowerHex byte ≡ true →
    Follows (TextFrom First argument) byte (TextFrom (Second (digit_value byte)) argument)
Follows-first argument byte digit = record {
  forth = λ rest h. subst (λ o. Holds o (Means argument)) (cond_true (has LowerHex byte) _ _ digit) h;
  back = λ rest h. subst (λ o. Holds o (Means argument)) (sym (cond_true (has LowerHex byte) _ _ digit)) h;
}

pub Refuses-first : (argument : Argument) (byte : ℕ) → has LowerHex byte ≡ false → Refuses (TextFrom First argument) byte
Refuses-first argument byte other rest h = subst (λ o. Holds o (Means argument)) (cond_false (has LowerHex byte) _ _ other) h

pub Follows-second : (argument left : Argument) (high byte : ℕ) → has LowerHex byte ≡ true → next argument (16 * high + digit_value byte) ≡ Some left →
    Follows (TextFrom (Second high) argument) byte (TextFrom Between left)
Follows-second argument left high byte digit e = record {
  forth = λ rest h. map_forth argument (16 * high + digit_value byte) (Some left) (meaning Between rest) e
      (subst (λ o. Holds o (Means argument)) (cond_true (has LowerHex byte) _ _ digit) h);
  back = λ rest h. subst (λ o. Holds o (Means argument)) (sym (cond_true (has LowerHex byte) _ _ digit))
      (map_back argument (16 * high + digit_value byte) (Some left) (meaning Between rest) e h);
}

pub Refuses-second : (argument : Argument) (high byte : ℕ) → has LowerHex byte ≡ false → Refuses (TextFrom (Second high) argument) byte
Refuses-second argument high byte other rest h = subst (λ o. Holds o (Means argument)) (cond_false (has LowerHex byte) _ _ other) h

pub Refuses-second_digit : (argument : Argument) (high byte : ℕ) → has LowerHex byte ≡ true → next argument (16 * high + digit_value byte) ≡ None →
    Refuses (TextFrom (Second high) argument) byte
Refuses-second_digit argument high byte digit e rest h =
    refused_byte argument (16 * high + digit_value byte) (meaning Between rest) e
    (subst (λ o. Holds o (Means argument)) (cond_true (has LowerHex byte) _ _ digit) h)

-- a choice of the same
cond_same : {V : Type 0} (b : Bool) (x : V) → cond b x x ≡ x
cond_same true x = refl
cond_same false x = refl

-- an argument that is closed goes on with no byte
closed_byte : (argument : Argument) (byte : ℕ) → is_open argument ≡ false → next argument byte ≡ None
closed_byte (Named first more) byte e = absurd (cc)
closed_byte (Run class (suc least) more) byte e = absurd (cc)
closed_byte (Run class zero (suc more)) byte e = absurd (cc)
closed_byte (Run class zero zero) byte e = cond_same (has_byte class byte) None
closed_byte Column byte e = absurd (cc)
closed_byte (Qualifier more) byte e = absurd (cc)
closed_byte Part byte e = absurd (cc)
closed_byte OneDot byte e = absurd (cc)
closed_byte TwoDots byte e = absurd (cc)

-- so no escape of it can be completed
closed_at : (argument : Argument) (byte : ℕ) (b : Bool) (o : Option (List ℕ)) → next argument byte ≡ None →
    Holds (cond b (option_map (λ rest. byte ∷ rest) o) None) (Means argument) → ⊥
closed_at argument byte true o e h = refused_byte argument byte o e h
closed_at argument byte false o e h = h

closed_second : (argument : Argument) (high : ℕ) (bytes : List ℕ) → is_open argument ≡ false → TextFrom (Second high) argument bytes → ⊥
closed_second argument high [] e h = h
closed_second argument high (x ∷ xs) e h =
    closed_at argument (16 * high + digit_value x) (has LowerHex x) (meaning Between xs) (closed_byte argument (16 * high + digit_value x) e) h

closed_choice : (argument : Argument) (b : Bool) (o : Option (List ℕ)) → (Holds o (Means argument) → ⊥) → Holds (cond b o None) (Means argument) → ⊥
closed_choice argument true o never h = never h
closed_choice argument false o never h = h

closed_first : (argument : Argument) (bytes : List ℕ) → is_open argument ≡ false → TextFrom First argument bytes → ⊥
closed_first argument [] e h = h
closed_first argument (x ∷ xs) e h =
    closed_choice argument (has LowerHex x) (meaning (Second (digit_value x)) xs) (closed_second argument (digit_value x) xs e) h

closed_escape : (argument : Argument) (bytes : List ℕ) → is_open argument ≡ false → TextFrom Escape argument bytes → ⊥
closed_escape argument [] e h = h
closed_escape argument (x ∷ xs) e h = closed_choice argument (nat_eq x 120) (meaning First xs) (closed_first argument xs e) h

pub Refuses-backslash : (argument : Argument) (byte : ℕ) → byte ≡ 92 → is_open argument ≡ false → Refuses (TextFrom Between argument) byte
Refuses-backslash argument byte e closed rest h =
    closed_escape argument rest closed ((Follows-backslash argument byte e).forth rest h)

-- a test that none of some bytes passes, one of them fails
abbrev pub NoDigit : (ℕ → Bool) → Type 0
NoDigit test = list_any test lower_digits ≡ false

or_false : (a b : Bool) → a || b ≡ false → (a ≡ false) × (b ≡ false)
or_false false b e = (refl, e)
or_false true b e = absurd (cc)

each_fails : (test : ℕ → Bool) (xs : List ℕ) → list_any test xs ≡ false → AllByRecursion (λ x. test x ≡ false) xs
each_fails test [] e = tt
each_fails test (x ∷ xs) e = let both = or_false (test x) (list_any test xs) e in (both.0, each_fails test xs both.1)

-- each lower-case digit is one of sixteen
decimal_fails : (test : ℕ → Bool) (k : ℕ) → k < 10 → NoDigit test → test (48 + k) ≡ false
decimal_fails test zero below e = (each_fails test lower_digits e).0
decimal_fails test (suc zero) below e = (each_fails test lower_digits e).1.0
decimal_fails test (suc (suc zero)) below e = (each_fails test lower_digits e).1.1.0
decimal_fails test (suc (suc (suc zero))) below e = (each_fails test lower_digits e).1.1.1.0
decimal_fails test (suc (suc (suc (suc zero)))) below e = (each_fails test lower_digits e).1.1.1.1.0
decimal_fails test (suc (suc (suc (suc (suc zero))))) below e = (each_fails test lower_digits e).1.1.1.1.1.0
decimal_fails test (suc (suc (suc (suc (suc (suc zero)))))) below e = (each_fails test lower_digits e).1.1.1.1.1.1.0
decimal_fails test (suc (suc (suc (suc (suc (suc (suc zero))))))) below e = (each_fails test lower_digits e).1.1.1.1.1.1.1.0
decimal_fails test (suc (suc (suc (suc (suc (suc (suc (suc zero)))))))) below e = (each_fails test lower_digits e).1.1.1.1.1.1.1.1.0
decimal_fails test (suc (suc (suc (suc (suc (suc (suc (suc (suc zero))))))))) below e = (each_fails test lower_digits e).1.1.1.1.1.1.1.1.1.0
decimal_fails test (suc (suc (suc (suc (suc (suc (suc (suc (suc (suc k)))))))))) below e = absurd (omega arith)

letter_fails : (test : ℕ → Bool) (k : ℕ) → k < 6 → NoDigit test → test (97 + k) ≡ false
letter_fails test zero below e = (each_fails test lower_digits e).1.1.1.1.1.1.1.1.1.1.0
letter_fails test (suc zero) below e = (each_fails test lower_digits e).1.1.1.1.1.1.1.1.1.1.1.0
letter_fails test (suc (suc zero)) below e = (each_fails test lower_digits e).1.1.1.1.1.1.1.1.1.1.1.1.0
letter_fails test (suc (suc (suc zero))) below e = (each_fails test lower_digits e).1.1.1.1.1.1.1.1.1.1.1.1.1.0
letter_fails test (suc (suc (suc (suc zero)))) below e = (each_fails test lower_digits e).1.1.1.1.1.1.1.1.1.1.1.1.1.1.0
letter_fails test (suc (suc (suc (suc (suc zero))))) below e = (each_fails test lower_digits e).1.1.1.1.1.1.1.1.1.1.1.1.1.1.1.0
letter_fails test (suc (suc (suc (suc (suc (suc k)))))) below e = absurd (omega arith)

both_true : (a b : Bool) → a && b ≡ true → (a ≡ true) × (b ≡ true)
both_true true true e = (refl, refl)
both_true true false e = absurd (cc)
both_true false b e = absurd (cc)

either_true : (a b : Bool) → a || b ≡ true → (a ≡ true) ⊎ (b ≡ true)
either_true true b e = inl refl
either_true false b e = inr e

within : (low high byte : ℕ) → nat_le low byte && nat_le byte high ≡ true → (low ≤ byte) × (byte ≤ high)
within low high byte e =
    let both = both_true (nat_le low byte) (nat_le byte high) e in
    let low_test : nat_le low byte ≡ true = both.0 in
    let high_test : nat_le byte high ≡ true = both.1 in
    (grind (arith, nat_tests), grind (arith, nat_tests))

digit_fails : (test : ℕ → Bool) (byte : ℕ) → has LowerHex byte ≡ true → NoDigit test → test byte ≡ false
unfolding has
digit_fails test byte digit e =
    elim (either_true (is_digit byte) (nat_le 97 byte && nat_le byte 102) digit) as (λ _. test byte ≡ false) [
      | inl decimal ↦
          let bounds = within 48 57 byte decimal in
          let same : 48 + (byte - 48) ≡ byte = omega (arith, bounds.0) in
          subst (λ (x : ℕ). test x ≡ false) same (decimal_fails test (byte - 48) (omega (arith, bounds.0, bounds.1)) e)
      | inr letter ↦
          let bounds = within 97 102 byte letter in
          let same : 97 + (byte - 97) ≡ byte = omega (arith, bounds.0) in
          subst (λ (x : ℕ). test x ≡ false) same (letter_fails test (byte - 97) (omega (arith, bounds.0, bounds.1)) e)
    ]

-- no value where none is there
no_value : {V : Type 0} (o : Option V) → has_value o ≡ false → o ≡ None
no_value None e = refl
no_value (Some v) e = absurd (cc)

first_at : (argument : Argument) (high byte : ℕ) (o : Option (List ℕ)) → is_open_at argument high ≡ false → (b : Bool) → has LowerHex byte ≡ b →
    Holds (cond b (option_map (λ rest. (16 * high + digit_value byte) ∷ rest) o) None) (Means argument) → ⊥
first_at argument high byte o e false other h = h
first_at argument high byte o e true digit h =
    let none = no_value (next argument (16 * high + digit_value byte))
    (digit_fails (λ d. has_value (next argument (16 * high + digit_value d))) byte digit e) in
    refused_byte argument (16 * high + digit_value byte) o none h

second_closed : (argument : Argument) (high : ℕ) (bytes : List ℕ) → is_open_at argument high ≡ false → TextFrom (Second high) argument bytes → ⊥
second_closed argument high [] e h = h
second_closed argument high (x ∷ xs) e h = first_at argument high x (meaning Between xs) e (has LowerHex x) refl h

-- a first digit behind which no second may come is refused
pub Refuses-first_digit : (argument : Argument) (byte : ℕ) → has LowerHex byte ≡ true → is_open_at argument (digit_value byte) ≡ false →
    Refuses (TextFrom First argument) byte
Refuses-first_digit argument byte digit e rest h = second_closed argument (digit_value byte) rest e ((Follows-first argument byte digit).forth rest h)
