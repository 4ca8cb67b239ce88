-- Hadoop's variable-length numbers, of 64 bits with a sign (org.apache.hadoop.io.WritableUtils.writeVLong).
-- From -112 to 127 a number is one byte. Else the first byte tells the sign and how many bytes follow, the
-- fewest that hold the number or, where it is negative, its complement, the highest byte first.
use Rattle.std.specs.Prelude.{◌≢◌, ◌++◌, FitsSigned, ℕ, ◌+◌, ◌-◌, ◌^◌, ℤ, pos, negsuc, ◌||◌, ◌==◌, not, nat_lt, nat_le, if◌then◌else◌, List, [], ◌∷◌, length, Result, Ok, Err}
use Rattle.std.specs.Int.{w64, bytes_high_first}
use Rattle.byteorder.specs.Endian.{big_number}
use Rattle.hb_wire.specs.declared.fault.WireError.{WireError}
use Rattle.hb_wire.specs.declared.fault.WireError.TheVariants.{Short, Overlong}

-- how many bytes hold a number of 64 bits, at least one
abbrev pub byte_count : ℕ → ℕ
byte_count n =
    if nat_lt n (2 ^ 8) then 1
    else (if nat_lt n (2 ^ 16) then 2
    else (if nat_lt n (2 ^ 24) then 3
    else (if nat_lt n (2 ^ 32) then 4
    else (if nat_lt n (2 ^ 40) then 5
    else (if nat_lt n (2 ^ 48) then 6
    else (if nat_lt n (2 ^ 56) then 7 else 8))))))

-- a first byte that tells the count of the bytes behind it, and the number in these bytes
abbrev pub counted : ℕ → ℕ → List ℕ
counted base stored = (base - byte_count stored) ∷ bytes_high_first (byte_count stored) stored

-- the spelling of a number: the first bytes 143 to 136 are -113 to -120, for 1 to 8 bytes of a number that is
-- not negative, and 135 to 128 are -121 to -128, for 1 to 8 bytes of a negative number's complement
unfoldable pub vlong : ℤ → List ℕ
vlong (pos n) = if nat_lt n 128 then n ∷ [] else counted 144 n
vlong (negsuc m) = if nat_lt m 112 then (255 - m) ∷ [] else counted 136 m

-- a stored number of some bytes: it is at least the least one that needs them, and below 2 ^ 63
unfoldable pub stored_at : ℕ → ℕ → List ℕ → Result ℕ WireError
stored_at len least bytes =
    let n = big_number len bytes in
    if nat_lt (length bytes) len then Err (Short (len - length bytes))
    else (if nat_lt n least || not (byte_count n == len) || nat_le (2 ^ 63) n then Err Overlong else Ok n)

-- a number that was stored, as the number that it stands for, and how many bytes it takes with its first byte
abbrev pub read_as : (ℕ → ℤ) → ℕ → Result ℕ WireError → Result (ℤ × ℕ) WireError
read_as value len (Ok n) = Ok (value n, 1 + len)
read_as value len (Err e) = Err e

-- the number at the front of the bytes and how many bytes it takes, or the first fault
unfoldable pub vlong_at : List ℕ → Result (ℤ × ℕ) WireError
vlong_at [] = Err (Short 1)
vlong_at (first ∷ rest) =
    if nat_lt first 128 then Ok (pos first, 1)
    else (if nat_lt first 136 then read_as negsuc (136 - first) (stored_at (136 - first) 112 rest)
    else (if nat_lt first 144 then read_as pos (144 - first) (stored_at (144 - first) 128 rest)
    else Ok (negsuc (255 - first), 1)))

-- no number stands at the front of the bytes
abbrev pub BeginsWithNone : List ℕ → Type 0
BeginsWithNone bytes = (value : ℤ) (rest : List ℕ) → FitsSigned w64 value → bytes ≢ vlong value ++ rest
