-- The text of an argument, and what it means.
use Rattle.std.specs.Prelude.{ℕ, ◌+◌, ◌-◌, ◌*◌, ◌%◌, nat_le, nat_lt, nat_eq, Bool, true, false, not, ◌&&◌, cond, List, [], ◌∷◌, Option, Some, None, option_map, codes}
use Rattle.std.specs.List.{list_any}
use Rattle.hb_grammar.specs.declared.class.Class.TheVariants.{LowerHex}
use Rattle.hb_grammar.specs.Class.{has, is_digit}
use Rattle.shell_text.specs.declared.argument.Argument.{Argument}
use Rattle.shell_text.specs.declared.text.Place.{Place}
use Rattle.shell_text.specs.declared.text.Place.TheVariants.{Between, Escape, First, Second}
use Rattle.shell_text.specs.Argument.{Means, is_open, next}

-- a byte that stands for itself in a text: 20 to 7e (hexadecimal), but neither the quote 27 nor the backslash 5c
abbrev pub is_plain : ℕ → Bool
is_plain byte = nat_le 32 byte && nat_le byte 126 && not (nat_eq byte 39) && not (nat_eq byte 92)

-- the value of a lower-case hexadecimal digit: 48 is 0, and 97 is a; it is below 16 for each other byte too
abbrev pub digit_value : ℕ → ℕ
digit_value digit = cond (is_digit digit) (digit - 48) ((digit - 87) % 16)

-- What is left of a text means: plain bytes themselves, and \x with two lower-case digits the byte of that number.
-- Some of an escape may have been read: its backslash, its x, or its first digit; 92 is the backslash and 120 is x.
abbrev pub meaning : Place → List ℕ → Option (List ℕ)
meaning Between [] = Some []
meaning Between (byte ∷ bytes) =
    cond (is_plain byte) (option_map (λ rest. byte ∷ rest) (meaning Between bytes)) (cond (nat_eq byte 92) (meaning Escape bytes) None)
meaning Escape [] = None
meaning Escape (byte ∷ bytes) = cond (nat_eq byte 120) (meaning First bytes) None
meaning First [] = None
meaning First (byte ∷ bytes) = cond (has LowerHex byte) (meaning (Second (digit_value byte)) bytes) None
meaning (Second high) [] = None
meaning (Second high) (byte ∷ bytes) =
    cond (has LowerHex byte) (option_map (λ rest. (16 * high + digit_value byte) ∷ rest) (meaning Between bytes)) None

-- there is a value, and it has a property
abbrev pub Holds : {V : Type 0} → Option V → (V → Type 0) → Type 0
Holds None property = ⊥
Holds (Some value) property = property value

-- what is left of a text, of which some of an escape may have been read
abbrev pub TextFrom : Place → Argument → List ℕ → Type 0
TextFrom place argument bytes = Holds (meaning place bytes) (Means argument)

-- the text of an argument
abbrev pub IsText : Argument → List ℕ → Type 0
IsText argument = TextFrom Between argument

-- whether an option has a value
abbrev pub has_value : {V : Type 0} → Option V → Bool
has_value None = false
has_value (Some value) = true

-- the lower-case hexadecimal digits
abbrev pub lower_digits : List ℕ
lower_digits = codes "0123456789abcdef"

-- whether a byte whose escape has this first digit may come
abbrev pub is_open_at : Argument → ℕ → Bool
is_open_at argument high = list_any (λ digit. has_value (next argument (16 * high + digit_value digit))) lower_digits

-- whether an escape that was begun can be completed
abbrev pub can_escape : Place → Argument → Bool
can_escape Between argument = true
can_escape Escape argument = is_open argument
can_escape First argument = is_open argument
can_escape (Second high) argument = is_open_at argument high

-- whether the first digit of an escape, where it was read, is one
abbrev pub is_small : Place → Bool
is_small Between = true
is_small Escape = true
is_small First = true
is_small (Second high) = nat_lt high 16
