-- The laws of a cell's key: what is read is spelled so, and what is spelled so is read.
use Rattle.std.proofs.Common.{◌≡◌, ℕ, ◌+◌, ◌-◌, ◌^◌, ◌<◌, ◌≤◌, Bool, true, false, cond, ltb, leb, eqb, ◌||◌, List, [], ◌∷◌, ◌++◌, length, get_or, take, drop, Option, Some, None, Ok, Err, refl, sym, ap, subst, ◌∙◌, append_assoc, arith}
use Rattle.std.proofs.lemmas.Bool.{le-ltb, ltb-false, leb-false, lt-leb, eqb-true, eqb-false, ne_eqb, or_parts}
use Rattle.std.proofs.lemmas.List.{take_at, drop_at, drop_more, drop_all, length-append, length-take, length-take-le, length-drop, get_or-append-add, drop-drop, take-append-drop}
use Rattle.std.proofs.Math.Seq.{get_or-append_seam}
use Rattle.hb_wire.specs.Fixed.{be_bytes, be_number}
use Rattle.hb_wire.proofs.BigEndian.{IsBytes, IsBytes-drop, IsBytes-rest, length-be_bytes, be_number-be_bytes, be_bytes-be_number}
use Rattle.hb_cell.specs.declared.kind.Kind.{Kind}
use Rattle.hb_cell.specs.declared.kind.Kind.TheVariants.{Put, Delete, DeleteColumn, DeleteFamily}
use Rattle.hb_cell.specs.declared.fault.CellError.TheVariants as errors
use Rattle.hb_cell.specs.Kinds.{code, kind_of}
use Rattle.hb_cell.specs.Limits.{IsColumn}
use Rattle.hb_cell.specs.Stored.{row_bytes, family_bytes, version_bytes, key_bytes}
use Rattle.hb_cell.specs.Reading.{◌>>=◌, row_at, family_at, Version, version_of, version_at, Key, key_at}
use Rattle.hb_cell.proofs.Taking.{ok, bind_ok, guard_ok, ok_is, Takes, Takes-then, Takes-take}

-- ---- the row

pub record IsRow (bytes row rest : List ℕ) : Type 0 where
  pub takes : Takes bytes (row_bytes row) rest
  pub low : 1 ≤ length row
  pub high : length row ≤ 32767

pub IsRow-row_at : (bytes : List ℕ) (x : List ℕ × List ℕ) → IsBytes bytes → row_at bytes ≡ Ok x → IsRow bytes x.0 x.1
unfolding row_at
IsRow-row_at bytes x fits e =
    let len = be_number 2 bytes in
    let behind = drop 2 bytes in
    let found = ok (take len behind, drop len behind) in
    let c = cond (ltb (length behind) len) (Err errors.FamilyLength) found in
    let a = guard_ok (ltb (length bytes) 2) errors.FamilyLength (cond (eqb len 0 || ltb 32767 len) (Err errors.RowLength) c) x e in
    let b = guard_ok (eqb len 0 || ltb 32767 len) errors.RowLength c x a.1 in
    let d = guard_ok (ltb (length behind) len) errors.FamilyLength found x b.1 in
    let limits = or_parts (eqb len 0) (ltb 32767 len) b.0 in
    let long : 2 ≤ length bytes = ltb-false (length bytes) 2 a.0 in
    let enough : len ≤ length behind = ltb-false (length behind) len d.0 in
    let low : len ≡ 0 → ⊥ = eqb-false len 0 limits.0 in
    let high : len ≤ 32767 = ltb-false 32767 len limits.1 in
    let size : length (take len behind) ≡ len = length-take-le len behind enough in
    let head : take 2 bytes ≡ be_bytes 2 (length (take len behind)) = sym (be_bytes-be_number 2 bytes long fits) ∙ ap (be_bytes 2) (sym size) in
    let first : Takes bytes (be_bytes 2 (length (take len behind))) behind = subst (λ (t : List ℕ). Takes bytes t behind) head (Takes-take 2 bytes fits) in
    let second : Takes behind (take len behind) (drop len behind) = Takes-take len behind (IsBytes-drop 2 bytes fits) in
    let made : IsRow bytes (take len behind) (drop len behind) = record {
      takes = Takes-then bytes (be_bytes 2 (length (take len behind))) behind (take len behind) (drop len behind) first second;
      low = omega (arith, size, low);
      high = omega (arith, size, high);
    } in
    subst (λ (y : List ℕ × List ℕ). IsRow bytes y.0 y.1) (ok_is (take len behind, drop len behind) x d.1) made

pub row_at-row_bytes : (row rest : List ℕ) → 1 ≤ length row → length row ≤ 32767 → row_at (row_bytes row ++ rest) ≡ Ok (row, rest)
unfolding row_at
row_at-row_bytes row rest low high =
    let head = be_bytes 2 (length row) in
    let regrouped : row_bytes row ++ rest ≡ head ++ (row ++ rest) = append_assoc head row rest in
    let number : be_number 2 (head ++ (row ++ rest)) ≡ length row = be_number-be_bytes 2 (length row) (row ++ rest) (omega arith) in
    let behind : drop 2 (head ++ (row ++ rest)) ≡ row ++ rest = drop_at head (row ++ rest) 2 (length-be_bytes 2 (length row)) in
    let long = le-ltb (length (head ++ (row ++ rest))) 2 (omega (arith, length-append head (row ++ rest), length-be_bytes 2 (length row))) in
    let some = ne_eqb (length row) 0 (λ e. omega arith) in
    let limit = le-ltb 32767 (length row) high in
    let enough = le-ltb (length (row ++ rest)) (length row) (omega (arith, length-append row rest)) in
    ap row_at regrouped ∙ rw (long, number, behind, some, limit, enough, take_at row rest (length row) refl, drop_at row rest (length row) refl) refl

-- ---- the family

pub record IsFamily (bytes family rest : List ℕ) : Type 0 where
  pub takes : Takes bytes (family_bytes family) rest
  pub low : 1 ≤ length family
  pub high : length family ≤ 127

pub IsFamily-family_at : (bytes : List ℕ) (x : List ℕ × List ℕ) → IsBytes bytes → family_at bytes ≡ Ok x → IsFamily bytes x.0 x.1
unfolding family_at
IsFamily-family_at [] x fits e = absurd cc
IsFamily-family_at (len ∷ behind) x fits e =
    let found = ok (take len behind, drop len behind) in
    let a = guard_ok (eqb len 0 || ltb 127 len || ltb (length behind) len) errors.FamilyLength found x e in
    let tests = or_parts (eqb len 0 || ltb 127 len) (ltb (length behind) len) a.0 in
    let limits = or_parts (eqb len 0) (ltb 127 len) tests.0 in
    let enough : len ≤ length behind = ltb-false (length behind) len tests.1 in
    let low : len ≡ 0 → ⊥ = eqb-false len 0 limits.0 in
    let high : len ≤ 127 = ltb-false 127 len limits.1 in
    let size : length (take len behind) ≡ len = length-take-le len behind enough in
    let second : Takes behind (take len behind) (drop len behind) = Takes-take len behind (IsBytes-rest len behind fits) in
    let made : IsFamily (len ∷ behind) (take len behind) (drop len behind) = record {
      takes = record { parts = rw size (ap (λ (t : List ℕ). len ∷ t) second.parts); rest_fits = second.rest_fits };
      low = omega (arith, size, low);
      high = omega (arith, size, high);
    } in
    subst (λ (y : List ℕ × List ℕ). IsFamily (len ∷ behind) y.0 y.1) (ok_is (take len behind, drop len behind) x a.1) made

pub family_at-family_bytes : (family rest : List ℕ) → 1 ≤ length family → length family ≤ 127 → family_at (family_bytes family ++ rest) ≡ Ok (family, rest)
unfolding family_at
family_at-family_bytes family rest low high =
    let some = ne_eqb (length family) 0 (λ e. omega arith) in
    let limit = le-ltb 127 (length family) high in
    let enough = le-ltb (length (family ++ rest)) (length family) (omega (arith, length-append family rest)) in
    rw (some, limit, enough, take_at family rest (length family) refl, drop_at family rest (length family) refl) refl

-- ---- the version

pub kind_of-code : (k : Kind) → kind_of (code k) ≡ Some k
kind_of-code Put = refl
kind_of-code Delete = refl
kind_of-code DeleteColumn = refl
kind_of-code DeleteFamily = refl

kind_test : (b : Bool) (j k : Kind) (n c : ℕ) (o : Option Kind) → (b ≡ true → n ≡ c) → code j ≡ c → (o ≡ Some k → code k ≡ n) → cond b (Some j) o ≡ Some k → code k ≡ n
kind_test true j k n c o same coded others e = let is : j ≡ k = cc in let at : n ≡ c = same refl in rw (← is) (coded ∙ sym at)
kind_test false j k n c o same coded others e = others e

pub code-kind_of : (n : ℕ) (k : Kind) → kind_of n ≡ Some k → code k ≡ n
code-kind_of n k e =
    kind_test (eqb n 4) Put k n 4 _ (eqb-true n 4) refl
    (kind_test (eqb n 8) Delete k n 8 _ (eqb-true n 8) refl
    (kind_test (eqb n 12) DeleteColumn k n 12 _ (eqb-true n 12) refl
    (kind_test (eqb n 14) DeleteFamily k n 14 None (eqb-true n 14) refl (λ none. absurd cc)))) e

-- a version at the end of a key
pub record IsVersion (bytes : List ℕ) (v : Version) : Type 0 where
  pub whole : bytes ≡ version_bytes v.qualifier v.ts v.kind
  pub qualifier_high : length v.qualifier ≤ 32767
  pub ts_high : v.ts < 2 ^ 63

version_of_ok : (qualifier : List ℕ) (ts n : ℕ) (kind : Option Kind) (v : Version) → version_of qualifier ts n kind ≡ Ok v
    → (k : Kind) × (kind ≡ Some k) × (ts < 2 ^ 63) × (record { qualifier = qualifier; ts = ts; kind = k } ≡ v)
version_of_ok qualifier ts n None v e = absurd cc
version_of_ok qualifier ts n (Some k) v e =
    let a = guard_ok (leb (2 ^ 63) ts) errors.Timestamp (Ok (record { qualifier = qualifier; ts = ts; kind = k })) v e in
    (k, refl, leb-false (2 ^ 63) ts a.0, ok_is (record { qualifier = qualifier; ts = ts; kind = k }) v a.1)

-- the last of nine bytes stands alone
last_of : (bytes : List ℕ) (n : ℕ) → length bytes ≡ n + 9 → drop 8 (drop n bytes) ≡ get_or bytes (n + 8) 0 ∷ []
last_of bytes n e = drop-drop 8 n bytes ∙ drop_more bytes (n + 8) 0 (omega arith) ∙ ap (λ (t : List ℕ). get_or bytes (n + 8) 0 ∷ t) (drop_all (n + 8 + 1) bytes (omega arith))

pub IsVersion-version_at : (bytes : List ℕ) (v : Version) → IsBytes bytes → version_at bytes ≡ Ok v → IsVersion bytes v
unfolding version_at
IsVersion-version_at bytes v fits e =
    let n = length bytes - 9 in
    let last = get_or bytes (n + 8) 0 in
    let number = be_number 8 (drop n bytes) in
    let found = version_of (take n bytes) number last (kind_of last) in
    let a = guard_ok (ltb (length bytes) 9 || ltb 32767 n) errors.FamilyLength found v e in
    let tests = or_parts (ltb (length bytes) 9) (ltb 32767 n) a.0 in
    let long : 9 ≤ length bytes = ltb-false (length bytes) 9 tests.0 in
    let high : n ≤ 32767 = ltb-false 32767 n tests.1 in
    let b = version_of_ok (take n bytes) number last (kind_of last) v a.1 in
    let coded : code b.0 ≡ last = code-kind_of last b.0 b.1 in
    let behind : length (drop n bytes) ≡ 9 = omega (arith, length-drop n bytes) in
    let stamp : take 8 (drop n bytes) ≡ be_bytes 8 number = sym (be_bytes-be_number 8 (drop n bytes) (omega arith) (IsBytes-drop n bytes fits)) in
    let tail : drop 8 (drop n bytes) ≡ code b.0 ∷ [] = last_of bytes n (omega arith) ∙ ap (λ (k : ℕ). k ∷ []) (sym coded) in
    let end : drop n bytes ≡ be_bytes 8 number ++ code b.0 ∷ [] = sym (take-append-drop 8 (drop n bytes)) ∙ rw (stamp, tail) refl in
    let size : length (take n bytes) ≤ n = omega (arith, length-take n bytes) in
    let made : IsVersion bytes (record { qualifier = take n bytes; ts = number; kind = b.0 }) = record {
      whole = sym (take-append-drop n bytes) ∙ ap (λ (t : List ℕ). take n bytes ++ t) end;
      qualifier_high = omega arith;
      ts_high = b.2;
    } in
    subst (IsVersion bytes) b.3 made

pub version_at-version_bytes : (qualifier : List ℕ) (ts : ℕ) (kind : Kind) → length qualifier ≤ 32767 → ts < 2 ^ 63
    → version_at (version_bytes qualifier ts kind) ≡ Ok (record { qualifier = qualifier; ts = ts; kind = kind })
unfolding version_at
version_at-version_bytes qualifier ts kind high small =
    let stamp = be_bytes 8 ts in
    let tail = stamp ++ code kind ∷ [] in
    let size : length tail ≡ 9 = omega (arith, length-append stamp (code kind ∷ []), length-be_bytes 8 ts) in
    let whole : length (qualifier ++ tail) ≡ length qualifier + 9 = omega (arith, length-append qualifier tail) in
    let n : length (qualifier ++ tail) - 9 ≡ length qualifier = omega arith in
    let behind : drop (length qualifier) (qualifier ++ tail) ≡ tail = drop_at qualifier tail (length qualifier) refl in
    let number : be_number 8 tail ≡ ts = be_number-be_bytes 8 ts (code kind ∷ []) (omega arith) in
    let alone : get_or (qualifier ++ tail) (length qualifier + 8) 0 ≡ code kind =
    get_or-append-add qualifier tail 8 0 ∙ ap (λ (k : ℕ). get_or tail k 0) (sym (length-be_bytes 8 ts)) ∙ get_or-append_seam stamp (code kind) [] 0 in
    rw (n, alone, behind, number, take_at qualifier tail (length qualifier) refl, le-ltb (length (qualifier ++ tail)) 9 (omega arith), le-ltb 32767 (length qualifier) high, kind_of-code kind, lt-leb (2 ^ 63) ts small) refl

-- ---- the key

-- what a key that was read tells of its bytes
pub record IsKey (bytes : List ℕ) (k : Key) : Type 0 where
  pub whole : bytes ≡ key_bytes k.row k.family k.version.qualifier k.version.ts k.version.kind
  pub column : IsColumn k.row k.family k.version.qualifier
  pub ts_high : k.version.ts < 2 ^ 63

pub IsKey-key_at : (bytes : List ℕ) (k : Key) → IsBytes bytes → key_at bytes ≡ Ok k → IsKey bytes k
unfolding key_at
IsKey-key_at bytes k fits e =
    let a = bind_ok (row_at bytes) (λ row. family_at row.1 >>= λ family. version_at family.1 >>= λ version. Ok (record { row = row.0; family = family.0; version = version })) k e in
    let b = bind_ok (family_at a.0.1) (λ family. version_at family.1 >>= λ version. Ok (record { row = a.0.0; family = family.0; version = version })) k a.2 in
    let c = bind_ok (version_at b.0.1) (λ version. Ok (record { row = a.0.0; family = b.0.0; version = version })) k b.2 in
    let row = IsRow-row_at bytes a.0 fits a.1 in
    let family = IsFamily-family_at a.0.1 b.0 row.takes.rest_fits b.1 in
    let version = IsVersion-version_at b.0.1 c.0 family.takes.rest_fits c.1 in
    let made : IsKey bytes (record { row = a.0.0; family = b.0.0; version = c.0 }) = record {
      whole = row.takes.parts ∙ ap (λ (t : List ℕ). row_bytes a.0.0 ++ t) (family.takes.parts ∙ ap (λ (t : List ℕ). family_bytes b.0.0 ++ t) version.whole);
      column = record { row_low = row.low; row_high = row.high; family_low = family.low; family_high = family.high; qualifier_high = version.qualifier_high };
      ts_high = version.ts_high;
    } in
    subst (IsKey bytes) (ok_is (record { row = a.0.0; family = b.0.0; version = c.0 }) k c.2) made

pub key_at-key_bytes : (row family qualifier : List ℕ) (ts : ℕ) (kind : Kind) → IsColumn row family qualifier → ts < 2 ^ 63
    → key_at (key_bytes row family qualifier ts kind) ≡ Ok (record { row = row; family = family; version = record { qualifier = qualifier; ts = ts; kind = kind } })
unfolding key_at
key_at-key_bytes row family qualifier ts kind column small =
    let version = version_bytes qualifier ts kind in
    let first = row_at-row_bytes row (family_bytes family ++ version) column.row_low column.row_high in
    let second = family_at-family_bytes family version column.family_low column.family_high in
    let third = version_at-version_bytes qualifier ts kind column.qualifier_high small in
    rw (first, second, third) refl

pub length-key_bytes : (row family qualifier : List ℕ) (ts : ℕ) (kind : Kind) → length (key_bytes row family qualifier ts kind) ≡ 12 + length row + length family + length qualifier
length-key_bytes row family qualifier ts kind =
    let tail = be_bytes 8 ts ++ code kind ∷ [] in
    let version = qualifier ++ tail in
    omega (arith, length-append (row_bytes row) (family_bytes family ++ version), length-append (be_bytes 2 (length row)) row, length-append family version, length-append qualifier tail, length-append (be_bytes 8 ts) (code kind ∷ []), length-be_bytes 8 ts, length-be_bytes 2 (length row))
