-- Bytes that are read as a number, the lowest first, are the bytes of that number.
use Rattle.std.proofs.Common.{◌≡◌, ℕ, zero, suc, ◌+◌, ◌*◌, ◌/◌, ◌%◌, ◌^◌, ◌<◌, ◌≤◌, List, [], ◌∷◌, length, take, refl, sym, ap, ◌∙◌, arith}
use Rattle.std.proofs.Math.Nat.{div-div-eq-div-mul, div-one, pow-succ'}
use Rattle.std.specs.Int.{byte_at, bytes_low_first}
use Rattle.byteorder.specs.Endian.{little_from}
use Rattle.byteorder.specs.Numbers.{little_from-cons}
use Rattle.hb_wire.proofs.BigEndian.{IsBytes, IsBytes-rest}

byte_at-pow : (k x : ℕ) → byte_at k x ≡ x / 256 ^ k % 256
byte_at-pow zero x = ap (λ (y : ℕ). y % 256) (sym (div-one x))
byte_at-pow (suc k) x = refl

-- the byte above the lowest is that of the number above it
byte_at-suc : (j b r : ℕ) → b < 256 → byte_at (suc j) (b + 256 * r) ≡ byte_at j r
byte_at-suc j b r byte =
    let above : (b + 256 * r) / 256 ≡ r = omega arith in
    let split : (b + 256 * r) / 256 ^ suc j ≡ r / 256 ^ j = ap (λ (p : ℕ). (b + 256 * r) / p) (pow-succ' 256 j) ∙ sym (div-div-eq-div-mul (b + 256 * r) 256 (256 ^ j)) ∙ ap (λ (q : ℕ). q / 256 ^ j) above in
    ap (λ (q : ℕ). q % 256) split ∙ sym (byte_at-pow j r)

bytes_low_first-suc : (j n b r : ℕ) → b < 256 → bytes_low_first (suc j) n (b + 256 * r) ≡ bytes_low_first j n r
bytes_low_first-suc j zero b r byte = refl
bytes_low_first-suc j (suc n) b r byte = rw (byte_at-suc j b r byte, bytes_low_first-suc (suc j) n b r byte) refl

-- the bytes of the number in the first n bytes are these
pub bytes_low_first-little_from : (n : ℕ) (bytes : List ℕ) → n ≤ length bytes → IsBytes bytes → bytes_low_first 0 n (little_from 0 n bytes) ≡ take n bytes
bytes_low_first-little_from zero bytes long fits = refl
bytes_low_first-little_from (suc n) [] long fits = absurd (omega arith)
bytes_low_first-little_from (suc n) (b ∷ bytes) long fits =
    let byte : b < 256 = fits 0 in
    let rest = little_from 0 n bytes in
    let whole : little_from 0 (suc n) (b ∷ bytes) ≡ b + 256 * rest = ap (λ (r : ℕ). b + 256 * r) (little_from-cons 0 n b bytes) in
    let lowest : byte_at 0 (b + 256 * rest) ≡ b = byte_at-pow 0 (b + 256 * rest) ∙ ap (λ (q : ℕ). q % 256) (div-one (b + 256 * rest)) ∙ omega arith in
    let others : bytes_low_first 1 n (b + 256 * rest) ≡ take n bytes = bytes_low_first-suc 0 n b rest byte ∙ bytes_low_first-little_from n bytes (omega arith) (IsBytes-rest b bytes fits) in
    ap (bytes_low_first 0 (suc n)) whole ∙ rw (lowest, others) refl
