-- How bytes of rows, qualifiers and values are printed.
use Rattle.std.specs.Prelude.{ℕ, ◌+◌, ◌/◌, ◌%◌, Bool, ◌&&◌, not, nat_le, nat_lt, nat_eq, cond, List, [], ◌∷◌}
use Rattle.std.specs.List.{flat_map}

-- a byte that stands for itself: 21 to 7e (hexadecimal) but the backslash, which is 5c
abbrev pub is_plain : ℕ → Bool
is_plain byte = nat_le 33 byte && nat_le byte 126 && not (nat_eq byte 92)

-- the lower-case hexadecimal digit of a number below 16: 48 is 0, and 97 is a
abbrev pub lower_digit : ℕ → ℕ
lower_digit n = cond (nat_lt n 10) (48 + n) (87 + n)

-- a byte as it is printed: itself, or \x and two digits; 120 is x
abbrev pub byte_text : ℕ → List ℕ
byte_text byte = cond (is_plain byte) (byte ∷ []) (92 ∷ 120 ∷ lower_digit (byte / 16) ∷ lower_digit (byte % 16) ∷ [])

-- the bytes of a row, qualifier or value as they are printed
abbrev pub shown : List ℕ → List ℕ
shown bytes = flat_map byte_text bytes
