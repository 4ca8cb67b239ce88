-- Numbers at a place.
use Rattle.std.proofs.Common.{◌≡◌, ℕ, ℤ, List, drop, ap, ◌∙◌}
use Rattle.std.specs.Int.{w64, cast_signed, cast_unsigned}
use Rattle.std.proofs.lemmas.Int.{of_z-to_z}
use Rattle.byteorder.specs.Endian.{big_number}
use Rattle.byteorder.specs.Numbers.{big_from-lt}
use Rattle.hb_wire.specs.Fixed.{be_number}
use Rattle.hb_wire.proofs.BigEndian.{IsBytes}

-- the number at a place, read behind it
pub number_behind : (bytes behind : List ℕ) (at n : ℕ) → behind ≡ drop at bytes → n ≡ big_number 4 behind → n ≡ be_number 4 (drop at bytes)
unfolding be_number
number_behind bytes behind at n e read = read ∙ ap (big_number 4) e

-- a number with a sign, by the bytes that hold it
pub signed_behind : (bytes behind : List ℕ) (at : ℕ) (z : ℤ) → IsBytes behind → behind ≡ drop at bytes → z ≡ cast_signed w64 (big_number 8 behind)
    → cast_signed w64 (cast_unsigned w64 z) ≡ cast_signed w64 (be_number 8 (drop at bytes))
unfolding be_number
signed_behind bytes behind at z fits e read =
    ap (λ (y : ℤ). cast_signed w64 (cast_unsigned w64 y)) read ∙ ap (cast_signed w64) (of_z-to_z w64 (big_number 8 behind) (big_from-lt 0 8 behind fits)) ∙ ap (λ (b : List ℕ). cast_signed w64 (big_number 8 b)) e
