-- What is missing, and what nothing that follows mends.
use Rattle.std.proofs.Common.{◌≡◌, ℕ, ◌+◌, ◌-◌, ◌<◌, ◌≤◌, ℤ, Bool, true, false, cond, ltb, leb, eqb, ◌||◌, List, [], ◌∷◌, ◌++◌, length, get_or, take, drop, Option, Some, None, Result, Ok, Err, refl, sym, ap, subst, ◌∙◌, inl, inr, arith}
use Rattle.std.specs.Prelude.{◌⊎◌, IfErr}
use Rattle.std.proofs.lemmas.Bool.{cases_lt}
use Rattle.std.proofs.lemmas.List.{take-append-le, drop-append-le, length-append, length-drop}
use Rattle.hb_wire.specs.Fixed.{be_number}
use Rattle.hb_wire.specs.Vlong.{vlong_at}
use Rattle.hb_wire.specs.declared.fault.WireError.{WireError}
use Rattle.hb_wire.specs.declared.fault.WireError.TheVariants as wire
use Rattle.hb_wire.proofs.BigEndian.{IsBytes, IsBytes-drop, be_number-append}
use Rattle.hb_wire.proofs.VlongFaults.{vlong_at-short, vlong_at-overlong, vlong_at-append, IsNumberFault-vlong_at}
use Rattle.hb_cell.specs.declared.kind.Kind.{Kind}
use Rattle.hb_cell.specs.declared.cell.Cell.{Cell}
use Rattle.hb_cell.specs.declared.cell.TheConstants.{MAX_ROW, MAX_FAMILY, MAX_VALUE, NUMBER_LIMIT}
use Rattle.hb_cell.specs.declared.fault.CellError.{CellError}
use Rattle.hb_cell.specs.declared.fault.CellError.TheVariants as errors
use Rattle.hb_cell.specs.Kinds.{kind_of}
use Rattle.hb_cell.specs.Stored.{stored}
use Rattle.hb_cell.specs.Reading.{◌>>=◌, Gives, seq_from, seq_at, Parts, parts_at, row_at, family_at, version_of, version_at, Key, key_at, with_seq_of, cell_at}
use Rattle.hb_cell.specs.Refused.{BeginsWithNone, HasKeyAndValue, IsWrong, IsRefusedFor}
use Rattle.hb_cell.proofs.Taking.{ok, bind_ok}
use Rattle.hb_cell.proofs.Parts.{cut, parts_at-no_lengths, parts_at-cut_off, parts_at-seq_at}
use Rattle.hb_cell.proofs.Cells.{cell_at-stored}

-- which step of reading failed
bind_err : {A B : Type 0} (r : Result A CellError) (f : A → Result B CellError) (d : CellError) → (r >>= f) ≡ Err d → (r ≡ Err d) ⊎ ((x : A) × (r ≡ Ok x) × (f x ≡ Err d))
bind_err (Ok x) f d e = inr (x, refl, e)
bind_err (Err d') f d e = inl cc

-- which test failed
guard_err : {A : Type 0} (b : Bool) (d' d : CellError) (r : Result A CellError) → cond b (Err d') r ≡ Err d → (d' ≡ d) ⊎ (r ≡ Err d)
guard_err true d' d r e = inl cc
guard_err false d' d r e = inr e

not_failed : {A : Type 0} (x : A) (d : CellError) → ok x ≡ Err d → ⊥
not_failed x d e = absurd cc

-- ---- a key that is there lacks no bytes

row_not_short : (bytes : List ℕ) (m : ℕ) → row_at bytes ≡ Err (errors.Short m) → ⊥
unfolding row_at
row_not_short bytes m e =
    let len = be_number 2 bytes in
    let behind = drop 2 bytes in
    let found = ok (take len behind, drop len behind) in
    let c = cond (ltb (length behind) len) (Err errors.FamilyLength) found in
    elim (guard_err (ltb (length bytes) 2) errors.FamilyLength (errors.Short m) (cond (eqb len 0 || ltb MAX_ROW len) (Err errors.RowLength) c) e) [
      | inl a ↦ absurd cc
      | inr a ↦ elim (guard_err (eqb len 0 || ltb MAX_ROW len) errors.RowLength (errors.Short m) c a) [
        | inl b ↦ absurd cc
        | inr b ↦ elim (guard_err (ltb (length behind) len) errors.FamilyLength (errors.Short m) found b) [
          | inl d ↦ absurd cc
          | inr d ↦ not_failed (take len behind, drop len behind) (errors.Short m) d
        ]
      ]
    ]

family_not_short : (bytes : List ℕ) (m : ℕ) → family_at bytes ≡ Err (errors.Short m) → ⊥
unfolding family_at
family_not_short [] m e = absurd cc
family_not_short (len ∷ behind) m e =
    elim (guard_err (eqb len 0 || ltb MAX_FAMILY len || ltb (length behind) len) errors.FamilyLength (errors.Short m) (ok (take len behind, drop len behind)) e) [
      | inl a ↦ absurd cc
      | inr a ↦ absurd cc
    ]

version_of_not_short : (qualifier : List ℕ) (ts code : ℕ) (kind : Option Kind) (m : ℕ) → version_of qualifier ts code kind ≡ Err (errors.Short m) → ⊥
version_of_not_short qualifier ts code None m e = absurd cc
version_of_not_short qualifier ts code (Some kind) m e =
    elim (guard_err (leb NUMBER_LIMIT ts) errors.Timestamp (errors.Short m) (ok (record { qualifier = qualifier; ts = ts; kind = kind })) e) [
      | inl a ↦ absurd cc
      | inr a ↦ absurd cc
    ]

version_not_short : (bytes : List ℕ) (m : ℕ) → version_at bytes ≡ Err (errors.Short m) → ⊥
unfolding version_at
version_not_short bytes m e =
    let n = length bytes - 9 in
    let last = get_or bytes (n + 8) 0 in
    let found = version_of (take n bytes) (be_number 8 (drop n bytes)) last (kind_of last) in
    elim (guard_err (ltb (length bytes) 9 || ltb MAX_ROW n) errors.FamilyLength (errors.Short m) found e) [
      | inl a ↦ absurd cc
      | inr a ↦ version_of_not_short (take n bytes) (be_number 8 (drop n bytes)) last (kind_of last) m a
    ]

key_not_short : (bytes : List ℕ) (m : ℕ) → key_at bytes ≡ Err (errors.Short m) → ⊥
unfolding key_at
key_not_short bytes m e =
    elim (bind_err (row_at bytes) (λ row. family_at row.1 >>= λ family. version_at family.1 >>= λ version. Ok (record { row = row.0; family = family.0; version = version })) (errors.Short m) e) [
      | inl a ↦ row_not_short bytes m a
      | inr a ↦ elim (bind_err (family_at a.0.1) (λ family. version_at family.1 >>= λ version. Ok (record { row = a.0.0; family = family.0; version = version })) (errors.Short m) a.2) [
        | inl b ↦ family_not_short a.0.1 m b
        | inr b ↦ elim (bind_err (version_at b.0.1) (λ version. Ok (record { row = a.0.0; family = b.0.0; version = version })) (errors.Short m) b.2) [
          | inl c ↦ version_not_short b.0.1 m c
          | inr c ↦ let bad = c.2 in absurd cc
        ]
      ]
    ]

-- the cell of parts that are there
abbrev judged : Parts → Result (Cell × ℕ) CellError
judged p = key_at p.key >>= λ key. cond (ltb MAX_VALUE (length p.value)) (Err errors.ValueLength) (with_seq_of key p.value p.seq p.used)

numbered_not_short : (key : Key) (value : List ℕ) (seq : Option ℕ) (used m : ℕ) → with_seq_of key value seq used ≡ Err (errors.Short m) → ⊥
numbered_not_short key value None used m e = absurd cc
numbered_not_short key value (Some seq) used m e = absurd cc

judged_not_short : (p : Parts) (m : ℕ) → judged p ≡ Err (errors.Short m) → ⊥
judged_not_short p m e =
    elim (bind_err (key_at p.key) (λ key. cond (ltb MAX_VALUE (length p.value)) (Err errors.ValueLength) (with_seq_of key p.value p.seq p.used)) (errors.Short m) e) [
      | inl a ↦ key_not_short p.key m a
      | inr a ↦ elim (guard_err (ltb MAX_VALUE (length p.value)) errors.ValueLength (errors.Short m) (with_seq_of a.0 p.value p.seq p.used) a.2) [
        | inl b ↦ absurd cc
        | inr b ↦ numbered_not_short a.0 p.value p.seq p.used m b
      ]
    ]

-- ---- the number, with more bytes behind it

seq_from_err : (at : ℕ) (r : Result (ℤ × ℕ) WireError) (d : CellError) → seq_from at r ≡ Err d → (m : ℕ) × (errors.Short m ≡ d) × (r ≡ Err (wire.Short m))
seq_from_err at (Ok x) d e = absurd cc
seq_from_err at (Err (wire.Short m)) d e = (m, cc, refl)
seq_from_err at (Err wire.Overlong) d e = absurd cc
seq_from_err at (Err (wire.BadWire tag)) d e = absurd cc
seq_from_err at (Err wire.NoMemory) d e = absurd cc

seq_at-fault : (with_seq : Bool) (at : ℕ) (bytes : List ℕ) (d : CellError) → seq_at with_seq at bytes ≡ Err d → (m : ℕ) × (errors.Short m ≡ d)
unfolding seq_at
seq_at-fault true at bytes d e = let f = seq_from_err at (vlong_at bytes) d e in (f.0, f.1)
seq_at-fault false at bytes d e = absurd cc

seq_at-short : (with_seq : Bool) (at : ℕ) (bytes more : List ℕ) (m : ℕ) → seq_at with_seq at bytes ≡ Err (errors.Short m) → length more < m
    → (n : ℕ) × (seq_at with_seq at (bytes ++ more) ≡ Err (errors.Short n))
unfolding seq_at
seq_at-short true at bytes more m e few =
    let f = seq_from_err at (vlong_at bytes) (errors.Short m) e in
    let is = f.1 in
    let same : f.0 ≡ m = cc in
    let s = vlong_at-short bytes more f.0 f.2 (omega arith) in
    (s.0, ap (seq_from at) s.1)
seq_at-short false at bytes more m e few = absurd cc

seq_at-append : (with_seq : Bool) (at : ℕ) (bytes more : List ℕ) (x : Option ℕ × ℕ) → IsBytes bytes → seq_at with_seq at bytes ≡ Ok x → seq_at with_seq at (bytes ++ more) ≡ Ok x
unfolding seq_at
seq_at-append true at bytes more x fits e = by (vlong_at bytes) refl e
  where
    by : (r : Result (ℤ × ℕ) WireError) → vlong_at bytes ≡ r → seq_from at r ≡ Ok x → seq_from at (vlong_at (bytes ++ more)) ≡ Ok x
    by (Ok y) read given = ap (seq_from at) (vlong_at-append bytes more y fits read) ∙ given
    by (Err (wire.Short m)) read given = absurd cc
    by (Err wire.Overlong) read given = ap (seq_from at) (vlong_at-overlong bytes more read) ∙ given
    by (Err (wire.BadWire tag)) read given = absurd (IsNumberFault-vlong_at bytes (wire.BadWire tag) read)
    by (Err wire.NoMemory) read given = absurd (IsNumberFault-vlong_at bytes wire.NoMemory read)
seq_at-append false at bytes more x fits e = e

-- ---- the parts, with more bytes behind them

-- how far the parts of a cell were found
data IsCut (with_seq : Bool) (bytes : List ℕ) : Type 0 where
  no_lengths : length bytes < 8 → IsCut with_seq bytes
  cut_off : 8 ≤ length bytes → length bytes < 8 + be_number 4 bytes + be_number 4 (drop 4 bytes) → IsCut with_seq bytes
  whole : HasKeyAndValue bytes → IsCut with_seq bytes

is_cut : (with_seq : Bool) (bytes : List ℕ) → IsCut with_seq bytes
is_cut with_seq bytes =
    elim (cases_lt (length bytes) 8) [
      | inl few ↦ no_lengths few
      | inr some ↦ elim (cases_lt (length bytes) (8 + be_number 4 bytes + be_number 4 (drop 4 bytes))) [
        | inl few ↦ cut_off some few
        | inr long ↦ whole (some, long)
      ]
    ]

key_len-append : (bytes more : List ℕ) → 8 ≤ length bytes → be_number 4 bytes ≡ be_number 4 (bytes ++ more)
key_len-append bytes more some = sym (be_number-append 4 bytes more (omega arith))

value_len-append : (bytes more : List ℕ) → 8 ≤ length bytes → be_number 4 (drop 4 bytes) ≡ be_number 4 (drop 4 (bytes ++ more))
value_len-append bytes more some =
    sym (ap (be_number 4) (drop-append-le 4 bytes more (omega arith)) ∙ be_number-append 4 (drop 4 bytes) more (omega (arith, length-drop 4 bytes)))

parts_at-append_seq_at : (with_seq : Bool) (bytes more : List ℕ) → HasKeyAndValue bytes →
    let k = be_number 4 bytes in
    let v = be_number 4 (drop 4 bytes) in
    parts_at with_seq (bytes ++ more) ≡ (seq_at with_seq (8 + k + v) (drop (8 + k + v) bytes ++ more) >>= λ s. Ok (cut k v bytes s))
parts_at-append_seq_at with_seq bytes more has =
    let k = be_number 4 bytes in
    let v = be_number 4 (drop 4 bytes) in
    let longer = length-append bytes more in
    let body : drop 8 (bytes ++ more) ≡ drop 8 bytes ++ more = drop-append-le 8 bytes more has.0 in
    let size = length-drop 8 bytes in
    let long = has.1 in
    let key : take k (drop 8 (bytes ++ more)) ≡ take k (drop 8 bytes) = ap (take k) body ∙ take-append-le k (drop 8 bytes) more (omega arith) in
    let behind : drop k (drop 8 (bytes ++ more)) ≡ drop k (drop 8 bytes) ++ more = ap (drop k) body ∙ drop-append-le k (drop 8 bytes) more (omega arith) in
    let value : take v (drop k (drop 8 (bytes ++ more))) ≡ take v (drop k (drop 8 bytes)) =
    ap (take v) behind ∙ take-append-le v (drop k (drop 8 bytes)) more (omega (arith, length-drop k (drop 8 bytes))) in
    parts_at-seq_at with_seq (bytes ++ more) k v (key_len-append bytes more has.0) (value_len-append bytes more has.0) (omega arith) (omega arith)
    ∙ ap (λ (t : List ℕ). seq_at with_seq (8 + k + v) t >>= λ s. Ok (cut k v (bytes ++ more) s)) (drop-append-le (8 + k + v) bytes more long)
    ∙ λ i. seq_at with_seq (8 + k + v) (drop (8 + k + v) bytes ++ more) >>= λ s. Ok (record { key = key i; value = value i; seq = s.0; used = s.1 })

-- what is missing is so with fewer bytes behind
parts_at-short : (with_seq : Bool) (bytes more : List ℕ) (m : ℕ) → parts_at with_seq bytes ≡ Err (errors.Short m) → length more < m
    → (n : ℕ) × (parts_at with_seq (bytes ++ more) ≡ Err (errors.Short n))
parts_at-short with_seq bytes more m e few =
    let k = be_number 4 bytes in
    let v = be_number 4 (drop 4 bytes) in
    let longer = length-append bytes more in
    elim (is_cut with_seq bytes) [
      | no_lengths low ↦
          let is = parts_at-no_lengths with_seq bytes low in
          let same : 8 - length bytes ≡ m = cc in
          (8 - length (bytes ++ more), parts_at-no_lengths with_seq (bytes ++ more) (omega arith))
      | cut_off some low ↦
          let is = parts_at-cut_off with_seq bytes k v refl refl some low in
          let same : 8 + k + v - length bytes ≡ m = cc in
          (8 + k + v - length (bytes ++ more), parts_at-cut_off with_seq (bytes ++ more) k v (key_len-append bytes more some) (value_len-append bytes more some) (omega arith) (omega arith))
      | whole has ↦
          let at = 8 + k + v in
          let is = sym (parts_at-seq_at with_seq bytes k v refl refl has.0 has.1) ∙ e in
          elim (bind_err (seq_at with_seq at (drop at bytes)) (λ s. Ok (cut k v bytes s)) (errors.Short m) is) [
            | inl a ↦
                let s = seq_at-short with_seq at (drop at bytes) more m a few in
                (s.0, parts_at-append_seq_at with_seq bytes more has ∙ ap (λ r. r >>= λ s. Ok (cut k v bytes s)) s.1)
            | inr a ↦ let bad = a.2 in absurd cc
          ]
    ]

-- a fault of the parts is that some bytes are missing
parts_at-fault : (with_seq : Bool) (bytes : List ℕ) (d : CellError) → parts_at with_seq bytes ≡ Err d → (m : ℕ) × (errors.Short m ≡ d)
parts_at-fault with_seq bytes d e =
    let k = be_number 4 bytes in
    let v = be_number 4 (drop 4 bytes) in
    elim (is_cut with_seq bytes) [
      | no_lengths low ↦ let is = parts_at-no_lengths with_seq bytes low in (8 - length bytes, cc)
      | cut_off some low ↦ let is = parts_at-cut_off with_seq bytes k v refl refl some low in (8 + k + v - length bytes, cc)
      | whole has ↦
          let at = 8 + k + v in
          let is = sym (parts_at-seq_at with_seq bytes k v refl refl has.0 has.1) ∙ e in
          elim (bind_err (seq_at with_seq at (drop at bytes)) (λ s. Ok (cut k v bytes s)) d is) [
            | inl a ↦ seq_at-fault with_seq at (drop at bytes) d a
            | inr a ↦ let bad = a.2 in absurd cc
          ]
    ]

-- parts that were found stay, whatever follows
record AreFound (with_seq : Bool) (bytes : List ℕ) (p : Parts) : Type 0 where
  there : HasKeyAndValue bytes
  lasting : (more : List ℕ) → parts_at with_seq (bytes ++ more) ≡ Ok p

parts_at-append : (with_seq : Bool) (bytes : List ℕ) (p : Parts) → IsBytes bytes → parts_at with_seq bytes ≡ Ok p → AreFound with_seq bytes p
parts_at-append with_seq bytes p fits e =
    let k = be_number 4 bytes in
    let v = be_number 4 (drop 4 bytes) in
    elim (is_cut with_seq bytes) [
      | no_lengths low ↦ let is = parts_at-no_lengths with_seq bytes low in absurd cc
      | cut_off some low ↦ let is = parts_at-cut_off with_seq bytes k v refl refl some low in absurd cc
      | whole has ↦
          let at = 8 + k + v in
          let is = sym (parts_at-seq_at with_seq bytes k v refl refl has.0 has.1) ∙ e in
          let a = bind_ok (seq_at with_seq at (drop at bytes)) (λ s. Ok (cut k v bytes s)) p is in
          record {
            there = has;
            lasting = λ more.
                parts_at-append_seq_at with_seq bytes more has
                ∙ ap (λ r. r >>= λ s. Ok (cut k v bytes s)) (seq_at-append with_seq at (drop at bytes) more a.0 (IsBytes-drop at bytes fits) a.1) ∙ a.2;
          }
    ]

-- ---- the cell

BeginsWithNone-fault : (with_seq : Bool) (bytes : List ℕ) (d : CellError) → cell_at with_seq bytes ≡ Err d → BeginsWithNone with_seq bytes
BeginsWithNone-fault with_seq bytes d e = λ cell rest is numbered same.
    let read : cell_at with_seq bytes ≡ Ok (cell, length (stored with_seq cell)) = ap (cell_at with_seq) same ∙ cell_at-stored with_seq cell rest is numbered in
    absurd cc

short_cell : (with_seq : Bool) (bytes more : List ℕ) (m : ℕ) → cell_at with_seq bytes ≡ Err (errors.Short m) → length more < m → BeginsWithNone with_seq (bytes ++ more)
unfolding cell_at
short_cell with_seq bytes more m e few =
    elim (bind_err (parts_at with_seq bytes) judged (errors.Short m) e) [
      | inl a ↦
          let s = parts_at-short with_seq bytes more m a few in
          BeginsWithNone-fault with_seq (bytes ++ more) (errors.Short s.0) (ap (λ r. r >>= judged) s.1)
      | inr a ↦ absurd (judged_not_short a.0 m a.2)
    ]

wrong_cell : (with_seq : Bool) (bytes : List ℕ) (d : CellError) → IsBytes bytes → ((m : ℕ) → errors.Short m ≡ d → ⊥) → cell_at with_seq bytes ≡ Err d → IsWrong with_seq bytes
unfolding cell_at
wrong_cell with_seq bytes d fits other e =
    elim (bind_err (parts_at with_seq bytes) judged d e) [
      | inl a ↦ let short = parts_at-fault with_seq bytes d a in absurd (other short.0 short.1)
      | inr a ↦
          let found = parts_at-append with_seq bytes a.0 fits a.1 in
          record {
            there = found.there;
            lasting = λ more. BeginsWithNone-fault with_seq (bytes ++ more) d (ap (λ r. r >>= judged) (found.lasting more) ∙ a.2);
          }
    ]

refused_by : (with_seq : Bool) (bytes : List ℕ) (r : Result (Cell × ℕ) CellError) → IsBytes bytes → Gives (λ x. x) r (cell_at with_seq bytes) → IfErr r (IsRefusedFor with_seq bytes)
refused_by with_seq bytes (Ok x) fits given = tt
refused_by with_seq bytes (Err (errors.Short m)) fits given = λ more few. short_cell with_seq bytes more m given few
refused_by with_seq bytes (Err errors.RowLength) fits given = wrong_cell with_seq bytes errors.RowLength fits (λ m e. cc) given
refused_by with_seq bytes (Err errors.FamilyLength) fits given = wrong_cell with_seq bytes errors.FamilyLength fits (λ m e. cc) given
refused_by with_seq bytes (Err (errors.Kind code)) fits given = wrong_cell with_seq bytes (errors.Kind code) fits (λ m e. cc) given
refused_by with_seq bytes (Err errors.Timestamp) fits given = wrong_cell with_seq bytes errors.Timestamp fits (λ m e. cc) given
refused_by with_seq bytes (Err errors.ValueLength) fits given = wrong_cell with_seq bytes errors.ValueLength fits (λ m e. cc) given
refused_by with_seq bytes (Err errors.Sequence) fits given = wrong_cell with_seq bytes errors.Sequence fits (λ m e. cc) given
refused_by with_seq bytes (Err errors.NoMemory) fits given = tt

-- what an answer tells of the bytes behind a place
pub refused_cell : (with_seq : Bool) (bytes : List ℕ) (at : ℕ) (behind : List ℕ) (r : Result (Cell × ℕ) CellError) → IsBytes bytes → behind ≡ drop at bytes
    → Gives (λ x. x) r (cell_at with_seq behind) → IfErr r (IsRefusedFor with_seq (drop at bytes))
refused_cell with_seq bytes at behind r fits is given =
    refused_by with_seq (drop at bytes) r (IsBytes-drop at bytes fits) (subst (λ (t : List ℕ). Gives (λ x. x) r (cell_at with_seq t)) is given)
