-- The laws of protobuf's numbers: what is written is read, and what is read is spelled so.
use Rattle.std.proofs.Common.{◌≡◌, ℕ, zero, suc, ◌+◌, ◌-◌, ◌*◌, ◌/◌, ◌%◌, ◌^◌, ◌<◌, ◌≤◌, Bool, true, false, cond, ltb, eqb, List, [], ◌∷◌, ◌++◌, length, take, drop, set, Result, Ok, Err, refl, sym, ap, subst, ◌∙◌, append_assoc, inl, inr, arith}
use Rattle.std.specs.Prelude.{◌⊎◌, IfOk}
use Rattle.std.proofs.lemmas.Bool.{cases_lt, lt-ltb, le-ltb, ltb-true, ltb-false, eqb-false, ne_eqb}
use Rattle.std.proofs.lemmas.List.{length-set, length-drop, drop-drop, append-nil}
use Rattle.std.proofs.lemmas.Grind.{take-set_at}
use Rattle.std.proofs.Math.Nat.{pow-suc}
use Rattle.hb_wire.proofs.BigEndian.{IsBytes, IsBytes-drop, IsBytes-rest}
use Rattle.hb_wire.specs.declared.fault.WireError.{WireError}
use Rattle.hb_wire.specs.declared.fault.WireError.TheVariants.{Short, Overlong}
use Rattle.wire_fields.specs.Varint.{sevens, limit, varint, behind, sevens_at, varint_at, BeginsWithNone}

abbrev pub ok : {A : Type 0} → A → Result A WireError
ok x = Ok x

pub ok_is : {A : Type 0} (x y : A) → ok x ≡ ok y → x ≡ y
ok_is x y e = cc

-- which way a test went
pub chosen : {A : Type 0} (b : Bool) (x y z : A) → cond b x y ≡ z → ((b ≡ true) × (x ≡ z)) ⊎ ((b ≡ false) × (y ≡ z))
chosen true x y z e = inl (refl, e)
chosen false x y z e = inr (refl, e)

pub limit-suc : (more : ℕ) → limit (suc more) ≡ 128 * limit more
limit-suc more = let e = pow-suc 128 more in omega arith

pub limit-nine : limit 9 ≡ 2 ^ 64
limit-nine = refl

limit_some : (more : ℕ) → 0 < limit more
limit_some zero = omega arith
limit_some (suc more) = let e = limit-suc more in let s = limit_some more in omega arith

sevens-low : (more n : ℕ) → n < 128 → sevens more n ≡ n ∷ []
sevens-low zero n low = refl
sevens-low (suc more) n low = rw (lt-ltb n 128 low) refl

limit-step : (more : ℕ) → 0 < more → limit more ≡ 128 * limit (more - 1)
limit-step zero some = absurd (omega arith)
limit-step (suc more) some = let e : suc more - 1 ≡ more = omega arith in rw e (limit-suc more)

limit-le : (k more : ℕ) → limit more ≤ limit (k + more)
limit-le zero more = let e : 0 + more ≡ more = omega arith in rw e (omega arith)
limit-le (suc k) more =
    let e : suc k + more ≡ suc (k + more) = omega arith in
    let on = limit-le k more in
    let step = limit-suc (k + more) in
    rw e (omega arith)

-- a number of fewer bytes is below that of nine more
pub below_nine : (more n : ℕ) → more ≤ 9 → n < limit more → n < 2 ^ 64
below_nine more n few small =
    let e : 9 - more + more ≡ 9 = omega arith in
    let le = limit-le (9 - more) more in
    let top : limit (9 - more + more) ≡ 2 ^ 64 = ap limit e ∙ limit-nine in
    omega arith

-- a byte before a number
pub low_high : (more low high : ℕ) → 0 < more → low < 128 → high < limit (more - 1) → low + 128 * high < limit more
low_high more low high some byte small = let e = limit-step more some in omega arith

pub byte_small : (more b : ℕ) → 0 < more → b < 128 → b < limit more
byte_small more b some byte = let e = limit-step more some in let s = limit_some (more - 1) in omega arith

-- the bytes of the numbers so far, and one more
pub record IsPut (bytes : List ℕ) (len rest : ℕ) (whole : List ℕ) : Type 0 where
  pub long : length bytes ≡ 10
  pub within : len ≤ 9
  pub small : rest < limit (9 - len)
  pub spelled : take len bytes ++ sevens (9 - len) rest ≡ whole

put_by : (m len rest : ℕ) (bytes whole : List ℕ) → 9 - len ≡ m → len ≤ 9 → length bytes ≡ 10 → 128 ≤ rest → rest < limit m → take len bytes ++ sevens m rest ≡ whole
    → IsPut (set bytes len (128 + rest % 128)) (len + 1) (rest / 128) whole
put_by zero len rest bytes whole e few long high small spelled = absurd (omega arith)
put_by (suc m) len rest bytes whole e few long high small spelled =
    let left : 9 - (len + 1) ≡ m = omega arith in
    let inside : len < length bytes = omega arith in
    let front : take (len + 1) (set bytes len (128 + rest % 128)) ≡ take len bytes ++ (128 + rest % 128) ∷ [] = take-set_at bytes len (len + 1) (128 + rest % 128) refl inside in
    let split : sevens (suc m) rest ≡ (128 + rest % 128) ∷ sevens m (rest / 128) = rw (le-ltb rest 128 high) refl in
    record {
      long = omega (arith, length-set bytes len (128 + rest % 128));
      within = omega arith;
      small = let step = limit-suc m in rw left (omega arith);
      spelled = rw left (ap (λ (t : List ℕ). t ++ sevens m (rest / 128)) front ∙ append_assoc (take len bytes) ((128 + rest % 128) ∷ []) (sevens m (rest / 128)) ∙ ap (λ (t : List ℕ). take len bytes ++ t) (sym split) ∙ spelled);
    }

pub IsPut-set : (len rest : ℕ) (bytes whole : List ℕ) → 128 ≤ rest → IsPut bytes len rest whole → IsPut (set bytes len (128 + rest % 128)) (len + 1) (rest / 128) whole
IsPut-set len rest bytes whole high is = put_by (9 - len) len rest bytes whole refl is.within is.long high is.small is.spelled

-- the last byte
pub put_last : (len rest : ℕ) (bytes whole : List ℕ) → rest < 128 → IsPut bytes len rest whole → take (1 + len) (set bytes len rest) ≡ whole
put_last len rest bytes whole low is =
    let inside : len < length bytes = let l = is.long in let w = is.within in omega arith in
    let one : 1 + len ≡ len + 1 = omega arith in
    rw one (take-set_at bytes len (len + 1) rest refl inside ∙ ap (λ (t : List ℕ). take len bytes ++ t) (sym (sevens-low (9 - len) rest low)) ∙ is.spelled)

pub IsPut-none : (bytes : List ℕ) (n : ℕ) → length bytes ≡ 10 → n < 2 ^ 64 → IsPut bytes 0 n (varint n)
unfolding varint
IsPut-none bytes n long small = record { long = long; within = omega arith; small = omega (arith, limit-nine); spelled = refl }

-- ---- what is written is read

behind-ok : (low high used : ℕ) → 0 < high → behind low (Ok (high, used)) ≡ Ok (low + 128 * high, 1 + used)
behind-ok low high used some = rw (ne_eqb high 0 (omega arith)) refl

pub sevens_at-sevens : (more n : ℕ) (rest : List ℕ) → n < limit more → sevens_at more (sevens more n ++ rest) ≡ Ok (n, length (sevens more n))
sevens_at-sevens zero n rest small = rw (lt-ltb n 2 small) refl
sevens_at-sevens (suc more) n rest small = elim (cases_lt n 128) [
  | inl low ↦ rw (lt-ltb n 128 low, lt-ltb n 128 low) refl
  | inr high ↦
      let below : n / 128 < limit more = let e = limit-suc more in omega arith in
      let some : 0 < n / 128 = omega arith in
      let on = sevens_at-sevens more (n / 128) rest below in
      let shift : 128 + n % 128 - 128 ≡ n % 128 = omega arith in
      let whole : n % 128 + 128 * (n / 128) ≡ n = omega arith in
      let spelled : sevens (suc more) n ≡ (128 + n % 128) ∷ sevens more (n / 128) = rw (le-ltb n 128 high) refl in
      let read : sevens_at (suc more) ((128 + n % 128) ∷ (sevens more (n / 128) ++ rest)) ≡ behind (128 + n % 128 - 128) (sevens_at more (sevens more (n / 128) ++ rest)) = rw (le-ltb (128 + n % 128) 128 (omega arith)) refl in
      ap (λ (s : List ℕ). sevens_at (suc more) (s ++ rest)) spelled ∙ read ∙ ap (λ (k : ℕ). behind k (sevens_at more (sevens more (n / 128) ++ rest))) shift
      ∙ ap (behind (n % 128)) on ∙ behind-ok (n % 128) (n / 128) (length (sevens more (n / 128))) some
      ∙ ap (λ (m : ℕ). ok (m, 1 + length (sevens more (n / 128)))) whole ∙ ap (λ (m : ℕ). ok (n, m)) (omega (arith, ap length spelled))
]

pub varint_at-varint : (n : ℕ) (rest : List ℕ) → n < 2 ^ 64 → varint_at (varint n ++ rest) ≡ Ok (n, length (varint n))
unfolding varint varint_at
varint_at-varint n rest small = sevens_at-sevens 9 n rest (omega (arith, limit-nine))

-- ---- what is read is spelled so

-- a number that was read, and what is left behind it
pub record IsSevens (more : ℕ) (bytes : List ℕ) (n used : ℕ) : Type 0 where
  pub small : n < limit more
  pub parts : bytes ≡ sevens more n ++ drop used bytes
  pub long : used ≤ length bytes
  pub few : used ≤ 1 + more
  pub some : 0 < used

IsSevens-byte : (more b : ℕ) (bytes : List ℕ) (n used : ℕ) → b < limit more → sevens more b ≡ b ∷ [] → ok {A = ℕ × ℕ} (b, 1) ≡ Ok (n, used) → IsSevens more (b ∷ bytes) n used
IsSevens-byte more b bytes n used small spelled e =
    let same = ok_is (b, 1) (n, used) e in
    let made : IsSevens more (b ∷ bytes) b 1 = record { small = small; parts = ap (λ (s : List ℕ). s ++ bytes) (sym spelled); long = omega arith; few = omega arith; some = omega arith } in
    subst (λ (x : ℕ × ℕ). IsSevens more (b ∷ bytes) x.0 x.1) same made

-- what stands behind a byte
behind_ok : (low n used : ℕ) (r : Result (ℕ × ℕ) WireError) → behind low r ≡ Ok (n, used)
    → (high : ℕ) × (len : ℕ) × (r ≡ Ok (high, len)) × (0 < high) × (low + 128 * high ≡ n) × (1 + len ≡ used)
behind_ok low n used (Ok x) e = elim (chosen (eqb x.0 0) (Err Overlong) (Ok (low + 128 * x.0, 1 + x.1)) (Ok (n, used)) e) [
  | inl t ↦ let bad = t.1 in absurd cc
  | inr f ↦
      let same = ok_is (low + 128 * x.0, 1 + x.1) (n, used) f.1 in
      let not_zero = eqb-false x.0 0 f.0 in
      (x.0, x.1, refl, omega arith, ap (λ (y : ℕ × ℕ). y.0) same, ap (λ (y : ℕ × ℕ). y.1) same)
]
behind_ok low n used (Err d) e = absurd cc

IsSevens-behind : (more b high len : ℕ) (bytes : List ℕ) → 128 ≤ b → b < 256 → 0 < high → IsSevens more bytes high len → IsSevens (suc more) (b ∷ bytes) (b - 128 + 128 * high) (1 + len)
IsSevens-behind more b high len bytes top byte some is =
    let n = b - 128 + 128 * high in
    let lowest : n % 128 ≡ b - 128 = omega arith in
    let rest : n / 128 ≡ high = omega arith in
    let back : 128 + n % 128 ≡ b = omega arith in
    let spelled : sevens (suc more) n ≡ b ∷ sevens more high = rw (le-ltb n 128 (omega arith), back, rest) refl in
    let one : 1 + len ≡ suc len = omega arith in
    let left : drop (1 + len) (b ∷ bytes) ≡ drop len bytes = ap (λ (k : ℕ). drop k (b ∷ bytes)) one in
    let l = is.long in
    let f = is.few in
    let s = is.small in
    record {
      small = let e = limit-suc more in omega arith;
      parts = ap (λ (t : List ℕ). b ∷ t) is.parts ∙ ap (λ (t : List ℕ). (b ∷ sevens more high) ++ t) (sym left) ∙ ap (λ (t : List ℕ). t ++ drop (1 + len) (b ∷ bytes)) (sym spelled);
      long = omega arith;
      few = omega arith;
      some = omega arith;
    }

pub IsSevens-sevens_at : (more : ℕ) (bytes : List ℕ) (n used : ℕ) → IsBytes bytes → sevens_at more bytes ≡ Ok (n, used) → IsSevens more bytes n used
IsSevens-sevens_at zero [] n used fits e = absurd cc
IsSevens-sevens_at zero (b ∷ bytes) n used fits e = elim (chosen (ltb b 2) (Ok (b, 1)) (Err Overlong) (Ok (n, used)) e) [
  | inl t ↦ IsSevens-byte zero b bytes n used (ltb-true b 2 t.0) refl t.1
  | inr f ↦ let bad = f.1 in absurd cc
]
IsSevens-sevens_at (suc more) [] n used fits e = absurd cc
IsSevens-sevens_at (suc more) (b ∷ bytes) n used fits e = elim (chosen (ltb b 128) (Ok (b, 1)) (behind (b - 128) (sevens_at more bytes)) (Ok (n, used)) e) [
  | inl t ↦
      let low = ltb-true b 128 t.0 in
      let some : 0 < limit more = limit_some more in
      IsSevens-byte (suc more) b bytes n used (let e = limit-suc more in omega arith) (rw (lt-ltb b 128 low) refl) t.1
  | inr f ↦
      let high = ltb-false b 128 f.0 in
      let is = behind_ok (b - 128) n used (sevens_at more bytes) f.1 in
      let on = IsSevens-sevens_at more bytes is.0 is.1 (IsBytes-rest b bytes fits) is.2 in
      let made = IsSevens-behind more b is.0 is.1 bytes high (fits 0) is.3 on in
      let number = is.4 in
      let len = is.5 in
      subst (λ (k : ℕ). IsSevens (suc more) (b ∷ bytes) n k) len (subst (λ (k : ℕ). IsSevens (suc more) (b ∷ bytes) k (1 + is.1)) number made)
]

-- what an answer tells of the bytes behind a place
pub found_varint : (bytes : List ℕ) (at : ℕ) (r : Result (ℕ × ℕ) WireError) → IsBytes bytes → r ≡ varint_at (drop at bytes)
    → IfOk r (λ x. (x.0 < 2 ^ 64) × (drop at bytes ≡ varint x.0 ++ drop (at + x.1) bytes))
unfolding varint varint_at
found_varint bytes at (Err d) fits e = tt
found_varint bytes at (Ok x) fits e =
    let is = IsSevens-sevens_at 9 (drop at bytes) x.0 x.1 (IsBytes-drop at bytes fits) (sym e) in
    let small = is.small in
    (omega (arith, limit-nine), is.parts ∙ ap (λ (r : List ℕ). sevens 9 x.0 ++ r) (drop-drop x.1 at bytes))

pub within_varint : (bytes : List ℕ) (at : ℕ) (r : Result (ℕ × ℕ) WireError) → IsBytes bytes → at ≤ length bytes → r ≡ varint_at (drop at bytes)
    → IfOk r (λ x. at + x.1 ≤ length bytes)
unfolding varint_at
within_varint bytes at (Err d) fits inside e = tt
within_varint bytes at (Ok x) fits inside e =
    let is = IsSevens-sevens_at 9 (drop at bytes) x.0 x.1 (IsBytes-drop at bytes fits) (sym e) in
    let long = is.long in
    omega (arith, length-drop at bytes)

-- ---- faults

behind_err : (low : ℕ) (r : Result (ℕ × ℕ) WireError) (k : ℕ) → behind low r ≡ Err (Short k) → r ≡ Err (Short k)
behind_err low (Ok x) k e = elim (chosen (eqb x.0 0) (Err Overlong) (Ok (low + 128 * x.0, 1 + x.1)) (Err (Short k)) e) [
  | inl t ↦ let bad = t.1 in absurd cc
  | inr f ↦ let bad = f.1 in absurd cc
]
behind_err low (Err d) k e = e

-- one byte is missing at least
sevens_at_short : (more : ℕ) (bytes : List ℕ) (k : ℕ) → sevens_at more bytes ≡ Err (Short k) → k ≡ 1
sevens_at_short zero [] k e = cc
sevens_at_short zero (b ∷ bytes) k e = elim (chosen (ltb b 2) (Ok (b, 1)) (Err Overlong) (Err (Short k)) e) [
  | inl t ↦ let bad = t.1 in absurd cc
  | inr f ↦ let bad = f.1 in absurd cc
]
sevens_at_short (suc more) [] k e = cc
sevens_at_short (suc more) (b ∷ bytes) k e = elim (chosen (ltb b 128) (Ok (b, 1)) (behind (b - 128) (sevens_at more bytes)) (Err (Short k)) e) [
  | inl t ↦ let bad = t.1 in absurd cc
  | inr f ↦ sevens_at_short more bytes k (behind_err (b - 128) (sevens_at more bytes) k f.1)
]

-- what is overlong stays so
behind-overlong : (low : ℕ) (r s : Result (ℕ × ℕ) WireError) → ((x : ℕ × ℕ) → r ≡ Ok x → s ≡ Ok x) → (r ≡ Err Overlong → s ≡ Err Overlong) → behind low r ≡ Err Overlong → behind low s ≡ Err Overlong
behind-overlong low (Ok x) s same stays e = ap (behind low) (same x refl) ∙ e
behind-overlong low (Err d) s same stays e = ap (behind low) (stays e)

sevens_at-more : (more : ℕ) (bytes rest : List ℕ) (x : ℕ × ℕ) → IsBytes bytes → sevens_at more bytes ≡ Ok x → sevens_at more (bytes ++ rest) ≡ Ok x
sevens_at-more zero [] rest x fits e = absurd cc
sevens_at-more zero (b ∷ bytes) rest x fits e = e
sevens_at-more (suc more) [] rest x fits e = absurd cc
sevens_at-more (suc more) (b ∷ bytes) rest x fits e = elim (chosen (ltb b 128) (Ok (b, 1)) (behind (b - 128) (sevens_at more bytes)) (Ok x) e) [
  | inl t ↦ rw t.0 t.1
  | inr f ↦
      let is = behind_ok (b - 128) x.0 x.1 (sevens_at more bytes) f.1 in
      let on = sevens_at-more more bytes rest (is.0, is.1) (IsBytes-rest b bytes fits) is.2 in
      rw f.0 (ap (behind (b - 128)) (on ∙ sym is.2) ∙ f.1)
]

sevens_at-overlong : (more : ℕ) (bytes rest : List ℕ) → IsBytes bytes → sevens_at more bytes ≡ Err Overlong → sevens_at more (bytes ++ rest) ≡ Err Overlong
sevens_at-overlong zero [] rest fits e = absurd cc
sevens_at-overlong zero (b ∷ bytes) rest fits e = e
sevens_at-overlong (suc more) [] rest fits e = absurd cc
sevens_at-overlong (suc more) (b ∷ bytes) rest fits e = elim (chosen (ltb b 128) (Ok (b, 1)) (behind (b - 128) (sevens_at more bytes)) (Err Overlong) e) [
  | inl t ↦ let bad = t.1 in absurd cc
  | inr f ↦ rw f.0 (behind-overlong (b - 128) (sevens_at more bytes) (sevens_at more (bytes ++ rest)) (λ x. sevens_at-more more bytes rest x (IsBytes-rest b bytes fits)) (sevens_at-overlong more bytes rest (IsBytes-rest b bytes fits)) f.1)
]

BeginsWithNone-fault : (bytes : List ℕ) (d : WireError) → varint_at bytes ≡ Err d → BeginsWithNone bytes
BeginsWithNone-fault bytes d e = λ n rest small is.
    let read : varint_at bytes ≡ Ok (n, length (varint n)) = ap varint_at is ∙ varint_at-varint n rest small in
    absurd cc

no_more : (more : List ℕ) (k : ℕ) → k ≡ 1 → length more < k → [] ≡ more
no_more [] k one few = refl
no_more (b ∷ more) k one few = absurd (omega arith)

-- with fewer bytes than are missing there is no number
pub BeginsWithNone-short : (bytes more : List ℕ) (k : ℕ) → varint_at bytes ≡ Err (Short k) → length more < k → BeginsWithNone (bytes ++ more)
unfolding varint_at
BeginsWithNone-short bytes more k e few =
    let none = no_more more k (sevens_at_short 9 bytes k e) few in
    subst (λ (t : List ℕ). BeginsWithNone (bytes ++ t)) none (BeginsWithNone-fault (bytes ++ []) (Short k) (ap (sevens_at 9) (append-nil bytes) ∙ e))

-- what is overlong begins no number, whatever follows
pub BeginsWithNone-overlong : (bytes more : List ℕ) → IsBytes bytes → varint_at bytes ≡ Err Overlong → BeginsWithNone (bytes ++ more)
unfolding varint_at
BeginsWithNone-overlong bytes more fits e = BeginsWithNone-fault (bytes ++ more) Overlong (sevens_at-overlong 9 bytes more fits e)
