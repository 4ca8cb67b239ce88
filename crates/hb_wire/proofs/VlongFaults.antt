-- The faults of variable-length numbers: what is missing, and what no bytes behind it mend.
use Rattle.std.proofs.Common.{◌≡◌, ℕ, ◌-◌, ◌^◌, ◌<◌, ◌≤◌, ℤ, pos, negsuc, Bool, true, false, cond, ltb, leb, eqb, not, ◌||◌, List, [], ◌∷◌, ◌++◌, length, drop, Result, Ok, Err, refl, sym, ap, subst, ◌∙◌, append_assoc, inl, inr, arith}
use Rattle.std.specs.Prelude.{◌⊎◌}
use Rattle.std.proofs.lemmas.Bool.{cases_lt, lt-ltb, le-ltb, ltb-true, ltb-false}
use Rattle.std.proofs.lemmas.List.{length-append}
use Rattle.byteorder.specs.Endian.{big_from}
use Rattle.hb_wire.specs.declared.fault.WireError.{WireError}
use Rattle.hb_wire.specs.declared.fault.WireError.TheVariants.{Short, Overlong, BadWire, NoMemory}
use Rattle.hb_wire.specs.Vlong.{byte_count, vlong, stored_at, read_as, vlong_at, BeginsWithNone}
use Rattle.hb_wire.proofs.BigEndian.{IsBytes, big_from-append}
use Rattle.hb_wire.proofs.Vlongs.{vlong_at-vlong, IsVlong-vlong_at}

-- which way a test went
chosen : {A : Type 0} (b : Bool) (x y z : A) → cond b x y ≡ z → ((b ≡ true) × (x ≡ z)) ⊎ ((b ≡ false) × (y ≡ z))
chosen true x y z e = inl (refl, e)
chosen false x y z e = inr (refl, e)

-- a stored number that is below the least one, has a shorter spelling, or is beyond its limit
abbrev is_wrong : ℕ → ℕ → ℕ → Bool
is_wrong k least n = ltb n least || not (eqb (byte_count n) k) || leb (2 ^ 63) n

read_as_err : (value : ℕ → ℤ) (k : ℕ) (r : Result ℕ WireError) (d : WireError) → read_as value k r ≡ Err d → r ≡ Err d
read_as_err value k (Ok n) d e = absurd cc
read_as_err value k (Err d') d e = cc

-- what a stored number says of its bytes where it answers a fault
stored_short : (k least m : ℕ) (bytes : List ℕ) → stored_at k least bytes ≡ Err (Short m) → (length bytes < k) × (m ≡ k - length bytes)
unfolding stored_at
stored_short k least m bytes e =
    let number = big_from 0 k bytes in
    let wrong = is_wrong k least number in
    elim (chosen (ltb (length bytes) k) (Err (Short (k - length bytes))) (cond wrong (Err Overlong) (Ok number)) (Err (Short m)) e) [
      | inl t ↦ (ltb-true (length bytes) k t.0, let same = t.1 in cc)
      | inr f ↦ elim (chosen wrong (Err Overlong) (Ok number) (Err (Short m)) f.1) [
        | inl g ↦ let bad = g.1 in absurd cc
        | inr g ↦ let bad = g.1 in absurd cc
      ]
    ]

stored_overlong : (k least : ℕ) (bytes : List ℕ) → stored_at k least bytes ≡ Err Overlong
    → (k ≤ length bytes) × (is_wrong k least (big_from 0 k bytes) ≡ true)
unfolding stored_at
stored_overlong k least bytes e =
    let number = big_from 0 k bytes in
    let wrong = is_wrong k least number in
    elim (chosen (ltb (length bytes) k) (Err (Short (k - length bytes))) (cond wrong (Err Overlong) (Ok number)) (Err Overlong) e) [
      | inl t ↦ let bad = t.1 in absurd cc
      | inr f ↦ elim (chosen wrong (Err Overlong) (Ok number) (Err Overlong) f.1) [
        | inl g ↦ (ltb-false (length bytes) k f.0, g.0)
        | inr g ↦ let bad = g.1 in absurd cc
      ]
    ]

stored_at-short : (k least : ℕ) (bytes : List ℕ) → length bytes < k → stored_at k least bytes ≡ Err (Short (k - length bytes))
unfolding stored_at
stored_at-short k least bytes short = rw (lt-ltb (length bytes) k short) refl

stored_at-overlong : (k least : ℕ) (bytes : List ℕ) → k ≤ length bytes
    → is_wrong k least (big_from 0 k bytes) ≡ true → stored_at k least bytes ≡ Err Overlong
unfolding stored_at
stored_at-overlong k least bytes long wrong = rw (le-ltb (length bytes) k long, wrong) refl

-- --the same with more bytes behind

counted_short : (value : ℕ → ℤ) (k least m : ℕ) (bytes more : List ℕ) → read_as value k (stored_at k least bytes) ≡ Err (Short m) → length more < m
    → (n : ℕ) × (read_as value k (stored_at k least (bytes ++ more)) ≡ Err (Short n))
counted_short value k least m bytes more e few =
    let is = stored_short k least m bytes (read_as_err value k (stored_at k least bytes) (Short m) e) in
    let missing = is.1 in
    let short : length (bytes ++ more) < k = let low = is.0 in omega (arith, length-append bytes more) in
    (k - length (bytes ++ more), ap (read_as value k) (stored_at-short k least (bytes ++ more) short))

counted_overlong : (value : ℕ → ℤ) (k least : ℕ) (bytes more : List ℕ) → read_as value k (stored_at k least bytes) ≡ Err Overlong
    → read_as value k (stored_at k least (bytes ++ more)) ≡ Err Overlong
counted_overlong value k least bytes more e =
    let is = stored_overlong k least bytes (read_as_err value k (stored_at k least bytes) Overlong e) in
    let long : k ≤ length (bytes ++ more) = let low = is.0 in omega (arith, length-append bytes more) in
    let wrong = ap (is_wrong k least) (big_from-append k bytes more is.0) ∙ is.1 in
    ap (read_as value k) (stored_at-overlong k least (bytes ++ more) long wrong)

vlong_at_low : (first : ℕ) (rest : List ℕ) → first < 128 → vlong_at (first ∷ rest) ≡ Ok (pos first, 1)
unfolding vlong_at
vlong_at_low first rest low = rw (lt-ltb first 128 low) refl

vlong_at_negsuc : (first : ℕ) (rest : List ℕ) → 128 ≤ first → first < 136 → vlong_at (first ∷ rest) ≡ read_as negsuc (136 - first) (stored_at (136 - first) 112 rest)
unfolding vlong_at
vlong_at_negsuc first rest low high = rw (le-ltb first 128 low, lt-ltb first 136 high) refl

vlong_at_pos : (first : ℕ) (rest : List ℕ) → 136 ≤ first → first < 144 → vlong_at (first ∷ rest) ≡ read_as pos (144 - first) (stored_at (144 - first) 128 rest)
unfolding vlong_at
vlong_at_pos first rest low high = rw (le-ltb first 128 (omega arith), le-ltb first 136 low, lt-ltb first 144 high) refl

vlong_at_high : (first : ℕ) (rest : List ℕ) → 144 ≤ first → vlong_at (first ∷ rest) ≡ Ok (negsuc (255 - first), 1)
unfolding vlong_at
vlong_at_high first rest high = rw (le-ltb first 128 (omega arith), le-ltb first 136 (omega arith), le-ltb first 144 high) refl

vlong_at_nil : vlong_at [] ≡ Err (Short 1)
unfolding vlong_at
vlong_at_nil = refl

pub vlong_at-short : (bytes more : List ℕ) (m : ℕ) → vlong_at bytes ≡ Err (Short m) → length more < m → (n : ℕ) × (vlong_at (bytes ++ more) ≡ Err (Short n))
vlong_at-short [] [] m e few = (1, vlong_at_nil)
vlong_at-short [] (b ∷ more) m e few = let one = vlong_at_nil in let same : m ≡ 1 = cc in absurd (omega arith)
vlong_at-short (first ∷ rest) more m e few =
    elim (cases_lt first 128) [
      | inl a ↦ let is = vlong_at_low first rest a in absurd cc
      | inr a' ↦ elim (cases_lt first 136) [
        | inl b ↦
            let is = counted_short negsuc (136 - first) 112 m rest more (sym (vlong_at_negsuc first rest a' b) ∙ e) few in
            (is.0, vlong_at_negsuc first (rest ++ more) a' b ∙ is.1)
        | inr b' ↦ elim (cases_lt first 144) [
          | inl c ↦
              let is = counted_short pos (144 - first) 128 m rest more (sym (vlong_at_pos first rest b' c) ∙ e) few in
              (is.0, vlong_at_pos first (rest ++ more) b' c ∙ is.1)
          | inr c' ↦ let is = vlong_at_high first rest c' in absurd cc
        ]
      ]
    ]

pub vlong_at-overlong : (bytes more : List ℕ) → vlong_at bytes ≡ Err Overlong → vlong_at (bytes ++ more) ≡ Err Overlong
vlong_at-overlong [] more e = let one = vlong_at_nil in absurd cc
vlong_at-overlong (first ∷ rest) more e =
    elim (cases_lt first 128) [
      | inl a ↦ let is = vlong_at_low first rest a in absurd cc
      | inr a' ↦ elim (cases_lt first 136) [
        | inl b ↦ vlong_at_negsuc first (rest ++ more) a' b ∙ counted_overlong negsuc (136 - first) 112 rest more (sym (vlong_at_negsuc first rest a' b) ∙ e)
        | inr b' ↦ elim (cases_lt first 144) [
          | inl c ↦ vlong_at_pos first (rest ++ more) b' c ∙ counted_overlong pos (144 - first) 128 rest more (sym (vlong_at_pos first rest b' c) ∙ e)
          | inr c' ↦ let is = vlong_at_high first rest c' in absurd cc
        ]
      ]
    ]

BeginsWithNone-fault : (bytes : List ℕ) (d : WireError) → vlong_at bytes ≡ Err d → BeginsWithNone bytes
BeginsWithNone-fault bytes d e = λ value rest fits is.
    let read : vlong_at bytes ≡ Ok (value, length (vlong value)) = ap vlong_at is ∙ vlong_at-vlong value rest fits in
    absurd cc

-- with fewer bytes than are missing there is no number
pub BeginsWithNone-short : (bytes more : List ℕ) (m : ℕ) → vlong_at bytes ≡ Err (Short m) → length more < m → BeginsWithNone (bytes ++ more)
BeginsWithNone-short bytes more m e few = let is = vlong_at-short bytes more m e few in BeginsWithNone-fault (bytes ++ more) (Short is.0) is.1

-- what is overlong begins no number, whatever follows
pub BeginsWithNone-overlong : (bytes more : List ℕ) → vlong_at bytes ≡ Err Overlong → BeginsWithNone (bytes ++ more)
BeginsWithNone-overlong bytes more e = BeginsWithNone-fault (bytes ++ more) Overlong (vlong_at-overlong bytes more e)

-- a number that was read stays, whatever follows
pub vlong_at-append : (bytes more : List ℕ) (x : ℤ × ℕ) → IsBytes bytes → vlong_at bytes ≡ Ok x → vlong_at (bytes ++ more) ≡ Ok x
vlong_at-append bytes more x fits e =
    let is = IsVlong-vlong_at bytes x.0 x.1 fits e in
    let rest = drop x.1 bytes in
    let alone : vlong_at bytes ≡ Ok (x.0, length (vlong x.0)) = ap vlong_at is.parts ∙ vlong_at-vlong x.0 rest is.fits in
    let behind : vlong_at (bytes ++ more) ≡ Ok (x.0, length (vlong x.0)) =
    ap vlong_at (ap (λ (t : List ℕ). t ++ more) is.parts ∙ append_assoc (vlong x.0) rest more) ∙ vlong_at-vlong x.0 (rest ++ more) is.fits in
    behind ∙ sym alone ∙ e

-- what a number can be refused for
abbrev pub IsNumberFault : WireError → Type 0
IsNumberFault (Short missing) = Unit {0}
IsNumberFault Overlong = Unit {0}
IsNumberFault (BadWire tag) = ⊥
IsNumberFault NoMemory = ⊥

stored_at_fault : (k least : ℕ) (bytes : List ℕ) (d : WireError) → stored_at k least bytes ≡ Err d → IsNumberFault d
unfolding stored_at
stored_at_fault k least bytes d e =
    let number = big_from 0 k bytes in
    let wrong = is_wrong k least number in
    elim (chosen (ltb (length bytes) k) (Err (Short (k - length bytes))) (cond wrong (Err Overlong) (Ok number)) (Err d) e) [
      | inl t ↦ let is = t.1 in let same : Short (k - length bytes) ≡ d = cc in subst IsNumberFault same tt
      | inr f ↦ elim (chosen wrong (Err Overlong) (Ok number) (Err d) f.1) [
        | inl g ↦ let is = g.1 in let same : Overlong ≡ d = cc in subst IsNumberFault same tt
        | inr g ↦ let bad = g.1 in absurd cc
      ]
    ]

pub IsNumberFault-vlong_at : (bytes : List ℕ) (d : WireError) → vlong_at bytes ≡ Err d → IsNumberFault d
IsNumberFault-vlong_at [] d e = let one = vlong_at_nil in let same : Short 1 ≡ d = cc in subst IsNumberFault same tt
IsNumberFault-vlong_at (first ∷ rest) d e =
    elim (cases_lt first 128) [
      | inl a ↦ let is = vlong_at_low first rest a in absurd cc
      | inr a' ↦ elim (cases_lt first 136) [
        | inl b ↦ stored_at_fault (136 - first) 112 rest d (read_as_err negsuc (136 - first) _ d (sym (vlong_at_negsuc first rest a' b) ∙ e))
        | inr b' ↦ elim (cases_lt first 144) [
          | inl c ↦ stored_at_fault (144 - first) 128 rest d (read_as_err pos (144 - first) _ d (sym (vlong_at_pos first rest b' c) ∙ e))
          | inr c' ↦ let is = vlong_at_high first rest c' in absurd cc
        ]
      ]
    ]
