use Rattle.std.specs.Prelude.{◌≡◌, ℕ, Bool, true, ◌&&◌, ◌||◌, nat_le, nat_eq, List}
use Rattle.std.specs.List.{AllByRecursion}
use Rattle.hb_grammar.specs.declared.class.Class.{Class}
use Rattle.hb_grammar.specs.declared.class.Class.TheVariants.{Digit, LowerHex, Name, NameStart, FamilyStart, Component}

-- 0 to 9
abbrev pub is_digit : ℕ → Bool
is_digit byte = nat_le 48 byte && nat_le byte 57

-- A to Z and a to z
abbrev pub is_letter : ℕ → Bool
is_letter byte = (nat_le 65 byte && nat_le byte 90) || (nat_le 97 byte && nat_le byte 122)

-- whether the class has this byte; 95 is _, 45 is -, 46 is . and 61 is =
unfoldable pub has : Class → ℕ → Bool
has Digit byte = is_digit byte
has LowerHex byte = is_digit byte || (nat_le 97 byte && nat_le byte 102)
has NameStart byte = is_digit byte || is_letter byte || nat_eq byte 95
has FamilyStart byte = is_digit byte || is_letter byte || nat_eq byte 95 || nat_eq byte 45
has Name byte = is_digit byte || is_letter byte || nat_eq byte 95 || nat_eq byte 45 || nat_eq byte 46
has Component byte = is_digit byte || is_letter byte || nat_eq byte 95 || nat_eq byte 45 || nat_eq byte 46 || nat_eq byte 61

-- each byte is in the class
abbrev pub AllIn : Class → List ℕ → Type 0
AllIn class bytes = AllByRecursion (λ byte. has class byte ≡ true) bytes
