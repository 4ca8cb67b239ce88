-- The laws of variable-length numbers: what is written is read, and what is read is spelled so.
use Rattle.std.proofs.Common.{◌≡◌, ℕ, suc, ◌+◌, ◌-◌, ◌^◌, ◌<◌, ◌≤◌, ℤ, pos, negsuc, Bool, true, false, cond, ltb, leb, eqb, not, ◌||◌, List, [], ◌∷◌, ◌++◌, length, take, drop, Result, Ok, Err, refl, sym, ap, subst, ◌∙◌, inl, inr, arith}
use Rattle.std.specs.Prelude.{FitsSigned, IfOk}
use Rattle.std.specs.Int.{w64, bytes_high_first}
use Rattle.std.proofs.lemmas.Bool.{cases_lt, lt-ltb, le-ltb, ltb-true, ltb-false, leb-false, eqb-true, lt-leb, eq-eqb, or_parts, not-false, cond_both}
use Rattle.std.proofs.lemmas.List.{take-append-drop, drop-drop, length-append, length-drop}
use Rattle.byteorder.specs.Endian.{big_from}
use Rattle.byteorder.specs.Numbers.{big_number-reads_back, length-bytes_high_first}
use Rattle.hb_wire.specs.declared.fault.WireError.{WireError}
use Rattle.hb_wire.specs.declared.fault.WireError.TheVariants.{Short, Overlong}
use Rattle.hb_wire.specs.Vlong.{byte_count, counted, vlong, stored_at, read_as, vlong_at}
use Rattle.hb_wire.proofs.BigEndian.{IsBytes, IsBytes-drop, IsBytes-rest, bytes_high_first-big_from}

-- how many bytes a number takes, and that it fits them
pub record IsCount (n k : ℕ) : Type 0 where
  pub low : 1 ≤ k
  pub high : k ≤ 8
  pub fits : n < 256 ^ k

IsCount-test : (n k limit : ℕ) (rest : ℕ) → 1 ≤ k → k ≤ 8 → limit ≡ 256 ^ k → (limit ≤ n → IsCount n rest) → IsCount n (cond (ltb n limit) k rest)
IsCount-test n k limit rest low high e others =
    cond_both (ltb n limit) k rest (IsCount n) (λ t. let below = ltb-true n limit t in record { low = low; high = high; fits = rw (← e) below }) (λ t. others (ltb-false n limit t))

pub IsCount-byte_count : (n : ℕ) → n < 2 ^ 63 → IsCount n (byte_count n)
IsCount-byte_count n small =
    IsCount-test n 1 (2 ^ 8) _ (omega arith) (omega arith) refl (λ _.
    IsCount-test n 2 (2 ^ 16) _ (omega arith) (omega arith) refl (λ _.
    IsCount-test n 3 (2 ^ 24) _ (omega arith) (omega arith) refl (λ _.
    IsCount-test n 4 (2 ^ 32) _ (omega arith) (omega arith) refl (λ _.
    IsCount-test n 5 (2 ^ 40) _ (omega arith) (omega arith) refl (λ _.
    IsCount-test n 6 (2 ^ 48) _ (omega arith) (omega arith) refl (λ _.
    IsCount-test n 7 (2 ^ 56) 8 (omega arith) (omega arith) refl (λ _.
    record { low = omega arith; high = omega arith; fits = omega arith })))))))

abbrev ok : {A E : Type 0} → A → Result A E
ok x = Ok x

-- a test that did not fail
pub guard_ok : {A E : Type 0} (b : Bool) (e : E) (r : Result A E) (y : A) → cond b (Err e) r ≡ Ok y → (b ≡ false) × (r ≡ Ok y)
guard_ok true e r y h = absurd cc
guard_ok false e r y h = (refl, h)

pub ok_is : {A E : Type 0} (x y : A) → ok {E = E} x ≡ Ok y → x ≡ y
ok_is x y e = cc

-- ---- what is written is read

stored_at-bytes_high_first : (k n least : ℕ) (rest : List ℕ) → k ≡ byte_count n → least ≤ n → n < 2 ^ 63 → stored_at k least (bytes_high_first k n ++ rest) ≡ Ok n
unfolding stored_at
stored_at-bytes_high_first k n least rest e enough small =
    let count : IsCount n k = rw e (IsCount-byte_count n small) in
    let number : big_from 0 k (bytes_high_first k n ++ rest) ≡ n = big_number-reads_back k n rest count.fits in
    let long = le-ltb (length (bytes_high_first k n ++ rest)) k (omega (arith, length-append (bytes_high_first k n) rest, length-bytes_high_first k n)) in
    rw (long, number, le-ltb n least enough, eq-eqb (byte_count n) k (sym e), lt-leb (2 ^ 63) n small) refl

vlong_at-pos : (k : ℕ) (rest : List ℕ) → 1 ≤ k → k ≤ 8 → vlong_at ((144 - k) ∷ rest) ≡ read_as pos k (stored_at k 128 rest)
unfolding vlong_at
vlong_at-pos k rest low high =
    let back : 144 - (144 - k) ≡ k = omega arith in
    rw (le-ltb (144 - k) 128 (omega arith), le-ltb (144 - k) 136 (omega arith), lt-ltb (144 - k) 144 (omega arith), back) refl

vlong_at-negsuc : (k : ℕ) (rest : List ℕ) → 1 ≤ k → k ≤ 8 → vlong_at ((136 - k) ∷ rest) ≡ read_as negsuc k (stored_at k 112 rest)
unfolding vlong_at
vlong_at-negsuc k rest low high =
    let back : 136 - (136 - k) ≡ k = omega arith in
    rw (le-ltb (136 - k) 128 (omega arith), lt-ltb (136 - k) 136 (omega arith), back) refl

length-counted : (base n : ℕ) → length (counted base n) ≡ 1 + byte_count n
length-counted base n = omega (arith, length-bytes_high_first (byte_count n) n)

vlong-pos : (n : ℕ) → 128 ≤ n → vlong (pos n) ≡ counted 144 n
unfolding vlong
vlong-pos n high = rw (le-ltb n 128 high) refl

vlong-negsuc : (m : ℕ) → 112 ≤ m → vlong (negsuc m) ≡ counted 136 m
unfolding vlong
vlong-negsuc m high = rw (le-ltb m 112 high) refl

pub vlong_at-vlong : (z : ℤ) (rest : List ℕ) → FitsSigned w64 z → vlong_at (vlong z ++ rest) ≡ Ok (z, length (vlong z))
unfolding vlong vlong_at
vlong_at-vlong (pos n) rest fits = elim (cases_lt n 128) [
  | inl low ↦ rw (lt-ltb n 128 low, lt-ltb n 128 low) refl
  | inr high ↦
      let small : n < 2 ^ 63 = fits.sfits in
      let count = IsCount-byte_count n small in
      let read : vlong_at (counted 144 n ++ rest) ≡ Ok (pos n, 1 + byte_count n) =
      vlong_at-pos (byte_count n) (bytes_high_first (byte_count n) n ++ rest) count.low count.high ∙ ap (read_as pos (byte_count n)) (stored_at-bytes_high_first (byte_count n) n 128 rest refl high small) in
      let counts : length (counted 144 n) ≡ 1 + byte_count n = length-counted 144 n in
      ap (λ (bytes : List ℕ). vlong_at (bytes ++ rest)) (vlong-pos n high) ∙ read ∙ ap (λ (k : ℕ). Ok (pos n, k)) (sym counts ∙ ap length (sym (vlong-pos n high)))
]
vlong_at-vlong (negsuc m) rest fits = elim (cases_lt m 112) [
  | inl low ↦
      let back : 255 - (255 - m) ≡ m = omega arith in
      rw (lt-ltb m 112 low, le-ltb (255 - m) 128 (omega arith), le-ltb (255 - m) 136 (omega arith), le-ltb (255 - m) 144 (omega arith), back) refl
  | inr high ↦
      let small : m < 2 ^ 63 = fits.sfits in
      let count = IsCount-byte_count m small in
      let read : vlong_at (counted 136 m ++ rest) ≡ Ok (negsuc m, 1 + byte_count m) =
      vlong_at-negsuc (byte_count m) (bytes_high_first (byte_count m) m ++ rest) count.low count.high ∙ ap (read_as negsuc (byte_count m)) (stored_at-bytes_high_first (byte_count m) m 112 rest refl high small) in
      let counts : length (counted 136 m) ≡ 1 + byte_count m = length-counted 136 m in
      ap (λ (bytes : List ℕ). vlong_at (bytes ++ rest)) (vlong-negsuc m high) ∙ read ∙ ap (λ (k : ℕ). Ok (negsuc m, k)) (sym counts ∙ ap length (sym (vlong-negsuc m high)))
]

-- ---- what is read is spelled so

-- what a stored number that was read tells of its bytes
record IsStored (k n least : ℕ) (bytes : List ℕ) : Type 0 where
  long : k ≤ length bytes
  enough : least ≤ n
  count : byte_count n ≡ k
  small : n < 2 ^ 63
  front : take k bytes ≡ bytes_high_first k n

IsStored-stored_at : (k n least : ℕ) (bytes : List ℕ) → IsBytes bytes → stored_at k least bytes ≡ Ok n → IsStored k n least bytes
unfolding stored_at
IsStored-stored_at k n least bytes fits e =
    let number = big_from 0 k bytes in
    let a = guard_ok (ltb (length bytes) k) (Short (k - length bytes)) (cond (ltb number least || not (eqb (byte_count number) k) || leb (2 ^ 63) number) (Err Overlong) (Ok number)) n e in
    let b = guard_ok (ltb number least || not (eqb (byte_count number) k) || leb (2 ^ 63) number) Overlong (Ok number) n a.1 in
    let is : number ≡ n = cc b.1 in
    let tests = or_parts (ltb number least || not (eqb (byte_count number) k)) (leb (2 ^ 63) number) b.0 in
    let low = or_parts (ltb number least) (not (eqb (byte_count number) k)) tests.0 in
    let long : k ≤ length bytes = ltb-false (length bytes) k a.0 in
    record {
      long = long;
      enough = rw (← is) (ltb-false number least low.0);
      count = rw (← is) (eqb-true (byte_count number) k (not-false (eqb (byte_count number) k) low.1));
      small = rw (← is) (leb-false (2 ^ 63) number tests.1);
      front = rw (← is) (sym (bytes_high_first-big_from k bytes long fits));
    }

read_as_ok : (value : ℕ → ℤ) (k : ℕ) (r : Result ℕ WireError) (z : ℤ) (used : ℕ) → read_as value k r ≡ Ok (z, used) → (n : ℕ) × (r ≡ Ok n) × (value n ≡ z) × (1 + k ≡ used)
read_as_ok value k (Ok n) z used e =
    let same = ok_is (value n, 1 + k) (z, used) e in
    (n, refl, ap (λ (x : ℤ × ℕ). x.0) same, ap (λ (x : ℤ × ℕ). x.1) same)
read_as_ok value k (Err d) z used e = absurd cc

-- a number that was read, and what is left behind it
pub record IsVlong (bytes : List ℕ) (z : ℤ) (used : ℕ) : Type 0 where
  pub fits : FitsSigned w64 z
  pub parts : bytes ≡ vlong z ++ drop used bytes
  pub long : used ≤ length bytes

IsVlong-counted : (value : ℕ → ℤ) (base k least n first used : ℕ) (rest : List ℕ) (z : ℤ) → FitsSigned w64 (value n) → vlong (value n) ≡ counted base n
    → IsStored k n least rest → base - k ≡ first → value n ≡ z → 1 + k ≡ used → IsVlong (first ∷ rest) z used
IsVlong-counted value base k least n first used rest z fits spelled stored head is takes =
    let spelling : counted base n ≡ first ∷ take k rest = rw (stored.count, head, stored.front) refl in
    let cut : first ∷ rest ≡ (first ∷ take k rest) ++ drop k rest = ap (λ (r : List ℕ). first ∷ r) (sym (take-append-drop k rest)) in
    let suc_k : 1 + k ≡ suc k = omega arith in
    let behind : drop k rest ≡ drop (1 + k) (first ∷ rest) = ap (λ (j : ℕ). drop j (first ∷ rest)) (sym suc_k) in
    let whole : first ∷ rest ≡ vlong (value n) ++ drop (1 + k) (first ∷ rest) = cut ∙ ap (λ (r : List ℕ). (first ∷ take k rest) ++ r) behind ∙ ap (λ (s : List ℕ). s ++ drop (1 + k) (first ∷ rest)) (sym (spelled ∙ spelling)) in
    let long : 1 + k ≤ length (first ∷ rest) = let l = stored.long in omega arith in
    let made : IsVlong (first ∷ rest) (value n) (1 + k) = record { fits = fits; parts = whole; long = long } in
    rw (← is, ← takes) made

-- a number of one byte
IsVlong-byte : (first used : ℕ) (rest : List ℕ) (value z : ℤ) → FitsSigned w64 value → vlong value ≡ first ∷ [] → ok {A = ℤ × ℕ} {E = WireError} (value, 1) ≡ Ok (z, used) → IsVlong (first ∷ rest) z used
IsVlong-byte first used rest value z fits spelled e =
    let same = ok_is (value, 1) (z, used) e in
    let whole : first ∷ rest ≡ vlong value ++ rest = ap (λ (s : List ℕ). s ++ rest) (sym spelled) in
    let made : IsVlong (first ∷ rest) value 1 = record { fits = fits; parts = whole; long = omega arith } in
    subst (λ (x : ℤ × ℕ). IsVlong (first ∷ rest) x.0 x.1) same made

IsVlong-pos : (first used : ℕ) (rest : List ℕ) (z : ℤ) → IsBytes rest → 136 ≤ first → first < 144 → vlong_at (first ∷ rest) ≡ Ok (z, used) → IsVlong (first ∷ rest) z used
IsVlong-pos first used rest z fits low high e =
    let same : 144 - (144 - first) ≡ first = omega arith in
    let read : read_as pos (144 - first) (stored_at (144 - first) 128 rest) ≡ Ok (z, used) = sym (vlong_at-pos (144 - first) rest (omega arith) (omega arith)) ∙ ap (λ (f : ℕ). vlong_at (f ∷ rest)) same ∙ e in
    let found = read_as_ok pos (144 - first) (stored_at (144 - first) 128 rest) z used read in
    let stored = IsStored-stored_at (144 - first) found.0 128 rest fits found.1 in
    IsVlong-counted pos 144 (144 - first) 128 found.0 first used rest z (record { sfits = stored.small }) (vlong-pos found.0 stored.enough) stored same found.2 found.3

IsVlong-negsuc : (first used : ℕ) (rest : List ℕ) (z : ℤ) → IsBytes rest → 128 ≤ first → first < 136 → vlong_at (first ∷ rest) ≡ Ok (z, used) → IsVlong (first ∷ rest) z used
IsVlong-negsuc first used rest z fits low high e =
    let same : 136 - (136 - first) ≡ first = omega arith in
    let read : read_as negsuc (136 - first) (stored_at (136 - first) 112 rest) ≡ Ok (z, used) = sym (vlong_at-negsuc (136 - first) rest (omega arith) (omega arith)) ∙ ap (λ (f : ℕ). vlong_at (f ∷ rest)) same ∙ e in
    let found = read_as_ok negsuc (136 - first) (stored_at (136 - first) 112 rest) z used read in
    let stored = IsStored-stored_at (136 - first) found.0 112 rest fits found.1 in
    IsVlong-counted negsuc 136 (136 - first) 112 found.0 first used rest z (record { sfits = stored.small }) (vlong-negsuc found.0 stored.enough) stored same found.2 found.3

vlong_at-low : (first : ℕ) (rest : List ℕ) → first < 128 → vlong_at (first ∷ rest) ≡ Ok (pos first, 1)
unfolding vlong_at
vlong_at-low first rest low = rw (lt-ltb first 128 low) refl

vlong_at-high : (first : ℕ) (rest : List ℕ) → 144 ≤ first → vlong_at (first ∷ rest) ≡ Ok (negsuc (255 - first), 1)
unfolding vlong_at
vlong_at-high first rest high = rw (le-ltb first 128 (omega arith), le-ltb first 136 (omega arith), le-ltb first 144 high) refl

vlong-low : (n : ℕ) → n < 128 → vlong (pos n) ≡ n ∷ []
unfolding vlong
vlong-low n low = rw (lt-ltb n 128 low) refl

vlong-high : (first : ℕ) → 144 ≤ first → first < 256 → vlong (negsuc (255 - first)) ≡ first ∷ []
unfolding vlong
vlong-high first low high =
    let back : 255 - (255 - first) ≡ first = omega arith in
    rw (lt-ltb (255 - first) 112 (omega arith), back) refl

pub IsVlong-vlong_at : (bytes : List ℕ) (z : ℤ) (used : ℕ) → IsBytes bytes → vlong_at bytes ≡ Ok (z, used) → IsVlong bytes z used
unfolding vlong_at
IsVlong-vlong_at [] z used fits e = absurd cc
IsVlong-vlong_at (first ∷ rest) z used fits e =
    let byte : first < 256 = fits 0 in
    elim (cases_lt first 128) [
      | inl a ↦ IsVlong-byte first used rest (pos first) z (record { sfits = omega arith }) (vlong-low first a) (sym (vlong_at-low first rest a) ∙ e)
      | inr a' ↦ elim (cases_lt first 136) [
        | inl b ↦ IsVlong-negsuc first used rest z (IsBytes-rest first rest fits) a' b e
        | inr b' ↦ elim (cases_lt first 144) [
          | inl c ↦ IsVlong-pos first used rest z (IsBytes-rest first rest fits) b' c e
          | inr c' ↦ IsVlong-byte first used rest (negsuc (255 - first)) z (record { sfits = omega arith }) (vlong-high first c' byte) (sym (vlong_at-high first rest c') ∙ e)
        ]
      ]
    ]

-- what an answer tells of the bytes behind a place
pub found_vlong : (bytes : List ℕ) (at : ℕ) (r : Result (ℤ × ℕ) WireError) → IsBytes bytes → r ≡ vlong_at (drop at bytes)
    → IfOk r (λ x. FitsSigned w64 x.0 × (drop at bytes ≡ vlong x.0 ++ drop (at + x.1) bytes))
found_vlong bytes at (Err d) fits e = tt
found_vlong bytes at (Ok x) fits e =
    let is = IsVlong-vlong_at (drop at bytes) x.0 x.1 (IsBytes-drop at bytes fits) (sym e) in
    (is.fits, is.parts ∙ ap (λ (r : List ℕ). vlong x.0 ++ r) (drop-drop x.1 at bytes))

-- a number that was read lies within the bytes
pub within_vlong : (bytes : List ℕ) (at : ℕ) (r : Result (ℤ × ℕ) WireError) → IsBytes bytes → at ≤ length bytes → r ≡ vlong_at (drop at bytes)
    → IfOk r (λ x. at + x.1 ≤ length bytes)
within_vlong bytes at (Err d) fits inside e = tt
within_vlong bytes at (Ok x) fits inside e =
    let is = IsVlong-vlong_at (drop at bytes) x.0 x.1 (IsBytes-drop at bytes fits) (sym e) in
    let long : x.1 ≤ length (drop at bytes) = is.long in
    omega (arith, length-drop at bytes)
