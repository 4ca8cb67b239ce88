-- Numbers of protobuf, of 64 bits (Protocol Buffers, Encoding, Base 128 Varints): seven bits a byte, the lowest
-- first, and the top bit of each byte but the last is set. The shortest spelling alone is taken.
use Rattle.std.specs.Prelude.{◌≢◌, ◌<◌, ◌++◌, ℕ, zero, suc, ◌+◌, ◌-◌, ◌*◌, ◌/◌, ◌%◌, ◌^◌, ◌==◌, nat_lt, if◌then◌else◌, List, [], ◌∷◌, Result, Ok, Err}
use Rattle.hb_wire.specs.declared.fault.WireError.{WireError}
use Rattle.hb_wire.specs.declared.fault.WireError.TheVariants.{Short, Overlong}

-- the bytes of a number of at most so many bytes more than one
abbrev pub sevens : ℕ → ℕ → List ℕ
sevens zero n = n ∷ []
sevens (suc more) n = if nat_lt n 128 then n ∷ [] else (128 + n % 128) ∷ sevens more (n / 128)

-- what these bytes do not reach: the last of them holds one bit
abbrev pub limit : ℕ → ℕ
limit more = 2 * 128 ^ more

-- the spelling of a number of 64 bits: at most ten bytes
unfoldable pub varint : ℕ → List ℕ
varint n = sevens 9 n

-- a byte before a number that was read: the number behind it is not 0, or the spelling were not the shortest
abbrev pub behind : ℕ → Result (ℕ × ℕ) WireError → Result (ℕ × ℕ) WireError
behind low (Ok x) = if x.0 == 0 then Err Overlong else Ok (low + 128 * x.0, 1 + x.1)
behind low (Err e) = Err e

-- the number at the front of the bytes, of at most so many bytes more than one, and how many it takes; or the
-- first fault. The tenth byte holds one bit.
abbrev pub sevens_at : ℕ → List ℕ → Result (ℕ × ℕ) WireError
sevens_at zero [] = Err (Short 1)
sevens_at zero (b ∷ bytes) = if nat_lt b 2 then Ok (b, 1) else Err Overlong
sevens_at (suc more) [] = Err (Short 1)
sevens_at (suc more) (b ∷ bytes) = if nat_lt b 128 then Ok (b, 1) else behind (b - 128) (sevens_at more bytes)

unfoldable pub varint_at : List ℕ → Result (ℕ × ℕ) WireError
varint_at bytes = sevens_at 9 bytes

-- no number stands at the front of the bytes
abbrev pub BeginsWithNone : List ℕ → Type 0
BeginsWithNone bytes = (n : ℕ) (rest : List ℕ) → n < 2 ^ 64 → bytes ≢ varint n ++ rest
