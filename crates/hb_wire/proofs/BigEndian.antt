-- Bytes that are read as a number, the highest first, are the bytes of that number.
use Rattle.std.proofs.Common.{◌≡◌, ℕ, zero, suc, ◌+◌, ◌*◌, ◌/◌, ◌%◌, ◌^◌, ◌<◌, ◌≤◌, List, [], ◌∷◌, ◌++◌, length, get_or, take, drop, refl, sym, ap, ◌∙◌, arith, inl, inr}
use Rattle.std.proofs.Math.Nat.{mul-add-div_right, mul-add-mod_self_right, mod-eq_of_lt, mul_assoc, div-one, one-le-pow, pow-succ'}
use Rattle.std.proofs.lemmas.Nat.{div-mul-add}
use Rattle.std.proofs.lemmas.Bool.{cases_lt}
use Rattle.std.proofs.lemmas.List.{get_or-drop, get_or-take, get_or_past, length-take, take-append-le}
use Rattle.std.specs.Int.{byte_at, bytes_high_first}
use Rattle.byteorder.specs.Endian.{big_from}
use Rattle.byteorder.specs.Numbers.{big_from-cons, big_from-lt, big_from-take, big_number-reads_back, length-bytes_high_first}
use Rattle.hb_wire.specs.Fixed.{be_bytes, be_number}

-- each number of the list is a byte
abbrev pub IsBytes : List ℕ → Type 0
IsBytes bytes = (i : ℕ) → get_or bytes i 0 < 256

pub IsBytes-drop : (n : ℕ) (bytes : List ℕ) → IsBytes bytes → IsBytes (drop n bytes)
IsBytes-drop n bytes h i = rw get_or-drop (h (n + i))

pub IsBytes-take : (n : ℕ) (bytes : List ℕ) → IsBytes bytes → IsBytes (take n bytes)
IsBytes-take n bytes h i =
    elim (cases_lt i n) [
      | inl lt ↦ rw (get_or-take n bytes i 0 lt) (h i)
      | inr le ↦ rw (get_or_past (take n bytes) i 0 (omega (arith, length-take n bytes))) (omega arith)
    ]

pub IsBytes-rest : (b : ℕ) (bytes : List ℕ) → IsBytes (b ∷ bytes) → IsBytes bytes
IsBytes-rest b bytes h i = h (suc i)

-- a byte of a number, by its place
byte_at-pow : (k x : ℕ) → byte_at k x ≡ x / 256 ^ k % 256
byte_at-pow zero x = ap (λ (y : ℕ). y % 256) (sym (div-one x))
byte_at-pow (suc k) x = refl

pow_pos256 : (n : ℕ) → zero < 256 ^ n
pow_pos256 n = let h = one-le-pow n 256 (omega arith) in omega arith

-- what stands above n bytes does not change them
bytes_high_first-add : (n k r : ℕ) → bytes_high_first n (k * 256 ^ n + r) ≡ bytes_high_first n r
bytes_high_first-add zero k r = refl
bytes_high_first-add (suc n) k r =
    let wide : k * 256 ^ suc n + r ≡ k * 256 * 256 ^ n + r = ap (λ (p : ℕ). p + r) (ap (λ (q : ℕ). k * q) (pow-succ' 256 n) ∙ sym (mul_assoc k 256 (256 ^ n))) in
    let top : byte_at n (k * 256 * 256 ^ n + r) ≡ byte_at n r =
    byte_at-pow n (k * 256 * 256 ^ n + r) ∙ ap (λ (q : ℕ). q % 256) (mul-add-div_right (pow_pos256 n) (k * 256) r) ∙ mul-add-mod_self_right k 256 (r / 256 ^ n) ∙ sym (byte_at-pow n r) in
    ap (bytes_high_first (suc n)) wide ∙ rw (top, bytes_high_first-add n (k * 256) r) refl

-- the bytes of the number in the first n bytes are these
pub bytes_high_first-big_from : (n : ℕ) (bytes : List ℕ) → n ≤ length bytes → IsBytes bytes → bytes_high_first n (big_from 0 n bytes) ≡ take n bytes
bytes_high_first-big_from zero bytes long fits = refl
bytes_high_first-big_from (suc n) [] long fits = absurd (omega arith)
bytes_high_first-big_from (suc n) (b ∷ bytes) long fits =
    let rest_fits = IsBytes-rest b bytes fits in
    let below : big_from 0 n bytes < 256 ^ n = big_from-lt 0 n bytes rest_fits in
    let whole : big_from 0 (suc n) (b ∷ bytes) ≡ b * 256 ^ n + big_from 0 n bytes = ap (λ (r : ℕ). b * 256 ^ n + r) (big_from-cons 0 n b bytes) in
    let top : byte_at n (b * 256 ^ n + big_from 0 n bytes) ≡ b =
    byte_at-pow n (b * 256 ^ n + big_from 0 n bytes) ∙ ap (λ (q : ℕ). q % 256) (div-mul-add b (256 ^ n) (big_from 0 n bytes) below) ∙ mod-eq_of_lt (fits 0) in
    let others : bytes_high_first n (b * 256 ^ n + big_from 0 n bytes) ≡ take n bytes =
    bytes_high_first-add n b (big_from 0 n bytes) ∙ bytes_high_first-big_from n bytes (omega arith) rest_fits in
    ap (bytes_high_first (suc n)) whole ∙ rw (top, others) refl

-- bytes behind a number do not change it
pub big_from-append : (n : ℕ) (bytes more : List ℕ) → n ≤ length bytes → big_from 0 n (bytes ++ more) ≡ big_from 0 n bytes
big_from-append n bytes more long =
    sym (big_from-take 0 n n (bytes ++ more) (omega arith)) ∙ ap (big_from 0 n) (take-append-le n bytes more long) ∙ big_from-take 0 n n bytes (omega arith)

-- ---- numbers of a fixed width

pub length-be_bytes : (width n : ℕ) → length (be_bytes width n) ≡ width
unfolding be_bytes
length-be_bytes width n = length-bytes_high_first width n

pub be_number-be_bytes : (width n : ℕ) (rest : List ℕ) → n < 256 ^ width → be_number width (be_bytes width n ++ rest) ≡ n
unfolding be_bytes be_number
be_number-be_bytes width n rest fits = big_number-reads_back width n rest fits

pub be_number-lt : (width : ℕ) (bytes : List ℕ) → IsBytes bytes → be_number width bytes < 256 ^ width
unfolding be_number
be_number-lt width bytes fits = big_from-lt 0 width bytes fits

pub be_bytes-be_number : (width : ℕ) (bytes : List ℕ) → width ≤ length bytes → IsBytes bytes → be_bytes width (be_number width bytes) ≡ take width bytes
unfolding be_bytes be_number
be_bytes-be_number width bytes long fits = bytes_high_first-big_from width bytes long fits

pub be_number-append : (width : ℕ) (bytes more : List ℕ) → width ≤ length bytes → be_number width (bytes ++ more) ≡ be_number width bytes
unfolding be_number
be_number-append width bytes more long = big_from-append width bytes more long
