-- Numbers of a fixed width, the highest byte first.
use Rattle.std.specs.Prelude.{ℕ, List}
use Rattle.byteorder.specs.Endian.{big_bytes, big_number}

-- the bytes of a number
unfoldable pub be_bytes : ℕ → ℕ → List ℕ
be_bytes width n = big_bytes width n

-- the number in the first bytes
unfoldable pub be_number : ℕ → List ℕ → ℕ
be_number width bytes = big_number width bytes
