-- The laws of a stored cell's parts: the lengths, the key, the value and the sequence number.
use Rattle.std.proofs.Common.{◌≡◌, ℕ, ◌+◌, ◌-◌, ◌^◌, ◌<◌, ◌≤◌, ℤ, pos, negsuc, Bool, true, false, cond, ltb, List, ◌++◌, length, take, drop, Option, Some, None, Result, Ok, Err, refl, sym, ap, subst, ◌∙◌, append_assoc, arith}
use Rattle.std.proofs.lemmas.Bool.{le-ltb, lt-ltb, ltb-false}
use Rattle.std.proofs.lemmas.List.{take_at, drop_at, drop-drop, take-append-drop, length-append, length-take-le, length-drop}
use Rattle.hb_wire.specs.Fixed.{be_bytes, be_number}
use Rattle.hb_wire.specs.Vlong.{vlong_at}
use Rattle.hb_wire.specs.declared.fault.WireError.{WireError}
use Rattle.hb_wire.specs.declared.fault.WireError.TheVariants as wire
use Rattle.hb_wire.proofs.BigEndian.{IsBytes, IsBytes-drop, IsBytes-take, length-be_bytes, be_number-be_bytes, be_bytes-be_number}
use Rattle.hb_wire.proofs.Vlongs.{IsVlong, IsVlong-vlong_at, vlong_at-vlong}
use Rattle.hb_cell.specs.declared.fault.CellError.{CellError}
use Rattle.hb_cell.specs.declared.fault.CellError.TheVariants as errors
use Rattle.hb_cell.specs.Stored.{seq_bytes, parts_bytes}
use Rattle.hb_cell.specs.Reading.{◌>>=◌, Fails, natural, seq_from, seq_at, Parts, parts_at}
use Rattle.hb_cell.proofs.Taking.{ok, bind_ok, guard_ok, ok_is}

-- ---- the sequence number

-- a number that was read at a place, and where it ends
pub record IsSeq (with_seq : Bool) (at : ℕ) (bytes : List ℕ) (seq used : ℕ) : Type 0 where
  pub whole : bytes ≡ seq_bytes with_seq seq ++ drop (used - at) bytes
  pub small : seq < 2 ^ 63
  pub numbered : with_seq ≡ false → seq ≡ 0
  pub after : at ≤ used
  pub within : used ≤ at + length bytes

natural_some : (z : ℤ) (n : ℕ) → natural z ≡ Some n → z ≡ pos n
natural_some (pos m) n e = cc
natural_some (negsuc m) n e = absurd cc

IsSeq-vlong : (at : ℕ) (bytes : List ℕ) (seq used : ℕ) → IsVlong bytes (pos seq) used → IsSeq true at bytes seq (at + used)
IsSeq-vlong at bytes seq used is =
    let behind : at + used - at ≡ used = omega arith in
    let fits = is.fits in
    let long : used ≤ length bytes = is.long in
    record { whole = rw behind is.parts; small = fits.sfits; numbered = λ e. absurd cc; after = omega arith; within = omega arith }

IsSeq-seq_from : (at : ℕ) (bytes : List ℕ) (r : Result (ℤ × ℕ) WireError) (seq used : ℕ) → IsBytes bytes → vlong_at bytes ≡ r → seq_from at r ≡ Ok (Some seq, used) → IsSeq true at bytes seq used
IsSeq-seq_from at bytes (Ok x) seq used fits read e =
    let same = ok_is (natural x.0, at + x.1) (Some seq, used) e in
    let is : x.0 ≡ pos seq = natural_some x.0 seq (ap (λ (y : Option ℕ × ℕ). y.0) same) in
    let made = IsVlong-vlong_at bytes x.0 x.1 fits read in
    let number : IsVlong bytes (pos seq) x.1 = subst (λ (z : ℤ). IsVlong bytes z x.1) is made in
    subst (λ (k : ℕ). IsSeq true at bytes seq k) (ap (λ (y : Option ℕ × ℕ). y.1) same) (IsSeq-vlong at bytes seq x.1 number)
IsSeq-seq_from at bytes (Err (wire.Short need)) seq used fits read e = absurd cc
IsSeq-seq_from at bytes (Err wire.Overlong) seq used fits read e =
    let same = ok_is (None, at) (Some seq, used) e in
    let first : None ≡ Some seq = ap (λ (y : Option ℕ × ℕ). y.0) same in
    absurd cc
IsSeq-seq_from at bytes (Err (wire.BadWire tag)) seq used fits read e =
    let same = ok_is (None, at) (Some seq, used) e in
    let first : None ≡ Some seq = ap (λ (y : Option ℕ × ℕ). y.0) same in
    absurd cc
IsSeq-seq_from at bytes (Err wire.NoMemory) seq used fits read e =
    let same = ok_is (None, at) (Some seq, used) e in
    let first : None ≡ Some seq = ap (λ (y : Option ℕ × ℕ). y.0) same in
    absurd cc

pub IsSeq-seq_at : (with_seq : Bool) (at : ℕ) (bytes : List ℕ) (seq used : ℕ) → IsBytes bytes → seq_at with_seq at bytes ≡ Ok (Some seq, used) → IsSeq with_seq at bytes seq used
unfolding seq_at
IsSeq-seq_at true at bytes seq used fits e = IsSeq-seq_from at bytes (vlong_at bytes) seq used fits refl e
IsSeq-seq_at false at bytes seq used fits e =
    let same = ok_is (Some 0, at) (Some seq, used) e in
    let some : Some 0 ≡ Some seq = ap (λ (y : Option ℕ × ℕ). y.0) same in
    let none : 0 ≡ seq = cc in
    let behind : at - at ≡ 0 = omega arith in
    let made : IsSeq false at bytes 0 at = record { whole = rw behind refl; small = omega arith; numbered = λ e. refl; after = omega arith; within = omega arith } in
    subst (λ (k : ℕ). IsSeq false at bytes seq k) (ap (λ (y : Option ℕ × ℕ). y.1) same) (subst (λ (n : ℕ). IsSeq false at bytes n at) none made)

pub seq_at-seq_bytes : (with_seq : Bool) (at seq : ℕ) (rest : List ℕ) → seq < 2 ^ 63 → (with_seq ≡ false → seq ≡ 0)
    → seq_at with_seq at (seq_bytes with_seq seq ++ rest) ≡ Ok (Some seq, at + length (seq_bytes with_seq seq))
unfolding seq_at
seq_at-seq_bytes true at seq rest small numbered = rw (vlong_at-vlong (pos seq) rest (record { sfits = small })) refl
seq_at-seq_bytes false at seq rest small numbered =
    let none : seq ≡ 0 = numbered refl in
    let ends : at + 0 ≡ at = omega arith in
    rw (none, ends) refl

-- ---- the parts

pub parts_bytes-append : (key value seq rest : List ℕ) → parts_bytes key value seq ++ rest ≡ be_bytes 4 (length key) ++ (be_bytes 4 (length value) ++ (key ++ (value ++ (seq ++ rest))))
parts_bytes-append key value seq rest = simp append_assoc

pub length-parts_bytes : (key value seq : List ℕ) → length (parts_bytes key value seq) ≡ 8 + length key + length value + length seq
length-parts_bytes key value seq =
    omega (arith, length-append (be_bytes 4 (length key)) (be_bytes 4 (length value) ++ (key ++ (value ++ seq))), length-append (be_bytes 4 (length value)) (key ++ (value ++ seq)), length-append key (value ++ seq), length-append value seq, length-be_bytes 4 (length key), length-be_bytes 4 (length value))

-- what parts that were read tell of the bytes
pub record IsParts (with_seq : Bool) (bytes : List ℕ) (p : Parts) (seq : ℕ) : Type 0 where
  pub whole : bytes ≡ parts_bytes p.key p.value (seq_bytes with_seq seq) ++ drop p.used bytes
  pub key_fits : IsBytes p.key
  pub small : seq < 2 ^ 63
  pub numbered : with_seq ≡ false → seq ≡ 0
  pub within : p.used ≤ length bytes

-- the parts, cut out by their lengths
abbrev pub cut : ℕ → ℕ → List ℕ → Option ℕ × ℕ → Parts
cut k v bytes seq = record { key = take k (drop 8 bytes); value = take v (drop k (drop 8 bytes)); seq = seq.0; used = seq.1 }

IsParts-cut : (with_seq : Bool) (bytes : List ℕ) (k v seq used : ℕ) → IsBytes bytes → k ≡ be_number 4 bytes → v ≡ be_number 4 (drop 4 bytes) → 8 + k + v ≤ length bytes
    → IsSeq with_seq (8 + k + v) (drop (8 + k + v) bytes) seq used → IsParts with_seq bytes (cut k v bytes (Some seq, used)) seq
IsParts-cut with_seq bytes k v seq used fits key_len value_len long is =
    let whole = 8 + k + v in
    let body = drop 8 bytes in
    let behind = drop k body in
    let key = take k body in
    let value = take v behind in
    let spelled = seq_bytes with_seq seq in
    let body_len : length body ≡ length bytes - 8 = length-drop 8 bytes in
    let behind_len : length behind ≡ length body - k = length-drop k body in
    let key_size : length key ≡ k = length-take-le k body (omega arith) in
    let value_size : length value ≡ v = length-take-le v behind (omega arith) in
    let size : length (drop 4 bytes) ≡ length bytes - 4 = length-drop 4 bytes in
    let first : take 4 bytes ≡ be_bytes 4 (length key) = sym (be_bytes-be_number 4 bytes (omega arith) fits) ∙ ap (be_bytes 4) (sym (key_size ∙ key_len)) in
    let second : take 4 (drop 4 bytes) ≡ be_bytes 4 (length value) = sym (be_bytes-be_number 4 (drop 4 bytes) (omega arith) (IsBytes-drop 4 bytes fits)) ∙ ap (be_bytes 4) (sym (value_size ∙ value_len)) in
    let at_body : drop 4 (drop 4 bytes) ≡ body = drop-drop 4 4 bytes in
    let at_whole : drop v behind ≡ drop whole bytes = ap (drop v) (drop-drop k 8 bytes) ∙ drop-drop v (8 + k) bytes in
    let after : whole ≤ used = is.after in
    let ends : whole + (used - whole) ≡ used = omega arith in
    let rest : drop (used - whole) (drop whole bytes) ≡ drop used bytes = drop-drop (used - whole) whole bytes ∙ ap (λ (j : ℕ). drop j bytes) ends in
    let e5 : drop v behind ≡ spelled ++ drop used bytes = at_whole ∙ is.whole ∙ ap (λ (t : List ℕ). spelled ++ t) rest in
    let e4 : behind ≡ value ++ (spelled ++ drop used bytes) = sym (take-append-drop v behind) ∙ ap (λ (t : List ℕ). value ++ t) e5 in
    let e3 : body ≡ key ++ (value ++ (spelled ++ drop used bytes)) = sym (take-append-drop k body) ∙ ap (λ (t : List ℕ). key ++ t) e4 in
    let e2 : drop 4 bytes ≡ be_bytes 4 (length value) ++ (key ++ (value ++ (spelled ++ drop used bytes))) = sym (take-append-drop 4 (drop 4 bytes)) ∙ ap (λ (t : List ℕ). t ++ drop 4 (drop 4 bytes)) second ∙ ap (λ (t : List ℕ). be_bytes 4 (length value) ++ t) (at_body ∙ e3) in
    let e1 : bytes ≡ be_bytes 4 (length key) ++ (be_bytes 4 (length value) ++ (key ++ (value ++ (spelled ++ drop used bytes)))) = sym (take-append-drop 4 bytes) ∙ ap (λ (t : List ℕ). t ++ drop 4 bytes) first ∙ ap (λ (t : List ℕ). be_bytes 4 (length key) ++ t) e2 in
    let inside : used ≤ whole + length (drop whole bytes) = is.within in
    record {
      whole = e1 ∙ sym (parts_bytes-append key value spelled (drop used bytes));
      key_fits = IsBytes-take k body (IsBytes-drop 8 bytes fits);
      small = is.small;
      numbered = is.numbered;
      within = omega (arith, length-drop whole bytes);
    }

-- where a length is missing, and where the key or the value is
pub parts_at-no_lengths : (with_seq : Bool) (bytes : List ℕ) → length bytes < 8 → parts_at with_seq bytes ≡ Err (errors.Short (8 - length bytes))
unfolding parts_at
parts_at-no_lengths with_seq bytes few = rw (lt-ltb (length bytes) 8 few) refl

pub parts_at-cut_off : (with_seq : Bool) (bytes : List ℕ) (k v : ℕ) → k ≡ be_number 4 bytes → v ≡ be_number 4 (drop 4 bytes) → 8 ≤ length bytes → length bytes < 8 + k + v
    → parts_at with_seq bytes ≡ Err (errors.Short (8 + k + v - length bytes))
unfolding parts_at
parts_at-cut_off with_seq bytes k v key_len value_len some few =
    rw (← key_len, ← value_len, le-ltb (length bytes) 8 some, lt-ltb (length bytes) (8 + k + v) few) refl

-- where nothing is missing before the number
pub parts_at-seq_at : (with_seq : Bool) (bytes : List ℕ) (k v : ℕ) → k ≡ be_number 4 bytes → v ≡ be_number 4 (drop 4 bytes) → 8 ≤ length bytes → 8 + k + v ≤ length bytes
    → parts_at with_seq bytes ≡ (seq_at with_seq (8 + k + v) (drop (8 + k + v) bytes) >>= λ s. Ok (cut k v bytes s))
unfolding parts_at
parts_at-seq_at with_seq bytes k v key_len value_len some long =
    rw (← key_len, ← value_len, le-ltb (length bytes) 8 some, le-ltb (length bytes) (8 + k + v) long) refl

Fails-then : {A B : Type 0} (e : CellError) (read : Result A CellError) (f : A → Result B CellError) → Fails e read → Fails e (read >>= f)
Fails-then errors.NoMemory read f h = tt
Fails-then (errors.Short need) read f h = ap (λ r. r >>= f) h
Fails-then errors.RowLength read f h = ap (λ r. r >>= f) h
Fails-then errors.FamilyLength read f h = ap (λ r. r >>= f) h
Fails-then (errors.Kind n) read f h = ap (λ r. r >>= f) h
Fails-then errors.Timestamp read f h = ap (λ r. r >>= f) h
Fails-then errors.ValueLength read f h = ap (λ r. r >>= f) h
Fails-then errors.Sequence read f h = ap (λ r. r >>= f) h

-- a number that could not be read
pub Fails-parts_at : (e : CellError) (with_seq : Bool) (bytes : List ℕ) (k v : ℕ) → k ≡ be_number 4 bytes → v ≡ be_number 4 (drop 4 bytes) → 8 ≤ length bytes → 8 + k + v ≤ length bytes
    → Fails e (seq_at with_seq (8 + k + v) (drop (8 + k + v) bytes)) → Fails e (parts_at with_seq bytes)
Fails-parts_at e with_seq bytes k v key_len value_len some long h =
    subst (Fails e) (sym (parts_at-seq_at with_seq bytes k v key_len value_len some long)) (Fails-then e (seq_at with_seq (8 + k + v) (drop (8 + k + v) bytes)) (λ s. Ok (cut k v bytes s)) h)

pub IsParts-parts_at : (with_seq : Bool) (bytes : List ℕ) (p : Parts) (seq : ℕ) → IsBytes bytes → parts_at with_seq bytes ≡ Ok p → p.seq ≡ Some seq → IsParts with_seq bytes p seq
unfolding parts_at
IsParts-parts_at with_seq bytes p seq fits e some =
    let k = be_number 4 bytes in
    let v = be_number 4 (drop 4 bytes) in
    let whole = 8 + k + v in
    let read = seq_at with_seq whole (drop whole bytes) in
    let found = read >>= λ s. Ok (cut k v bytes s) in
    let a = guard_ok (ltb (length bytes) 8) (errors.Short (8 - length bytes)) (cond (ltb (length bytes) whole) (Err (errors.Short (whole - length bytes))) found) p e in
    let b = guard_ok (ltb (length bytes) whole) (errors.Short (whole - length bytes)) found p a.1 in
    let c = bind_ok read (λ s. Ok (cut k v bytes s)) p b.1 in
    let is : cut k v bytes c.0 ≡ p = ok_is (cut k v bytes c.0) p c.2 in
    let first : c.0.0 ≡ Some seq = ap (λ (q : Parts). q.seq) is ∙ some in
    let pair : c.0 ≡ (Some seq, c.0.1) = λ i. (first i, c.0.1) in
    let number = IsSeq-seq_at with_seq whole (drop whole bytes) seq c.0.1 (IsBytes-drop whole bytes fits) (c.1 ∙ ap ok pair) in
    let made = IsParts-cut with_seq bytes k v seq c.0.1 fits refl refl (ltb-false (length bytes) whole b.0) number in
    subst (λ (q : Parts). IsParts with_seq bytes q seq) (ap (cut k v bytes) (sym pair) ∙ is) made

pub parts_at-parts_bytes : (with_seq : Bool) (key value : List ℕ) (seq : ℕ) (rest : List ℕ) → length key < 2 ^ 32 → length value < 2 ^ 32 → seq < 2 ^ 63 → (with_seq ≡ false → seq ≡ 0)
    → parts_at with_seq (parts_bytes key value (seq_bytes with_seq seq) ++ rest)
    ≡ Ok (record { key = key; value = value; seq = Some seq; used = length (parts_bytes key value (seq_bytes with_seq seq)) })
unfolding parts_at
parts_at-parts_bytes with_seq key value seq rest key_fits value_fits small numbered =
    let spelled = seq_bytes with_seq seq in
    let head = be_bytes 4 (length key) in
    let next = be_bytes 4 (length value) in
    let tail = key ++ (value ++ (spelled ++ rest)) in
    let bytes = head ++ (next ++ tail) in
    let whole = 8 + length key + length value in
    let head_size : length head ≡ 4 = length-be_bytes 4 (length key) in
    let next_size : length next ≡ 4 = length-be_bytes 4 (length value) in
    let tail_size : length tail ≡ length key + (length value + length (spelled ++ rest)) = omega (arith, length-append key (value ++ (spelled ++ rest)), length-append value (spelled ++ rest)) in
    let size : length bytes ≡ 8 + length tail = omega (arith, length-append head (next ++ tail), length-append next tail) in
    let k : be_number 4 bytes ≡ length key = be_number-be_bytes 4 (length key) (next ++ tail) (omega arith) in
    let at_next : drop 4 bytes ≡ next ++ tail = drop_at head (next ++ tail) 4 head_size in
    let v : be_number 4 (next ++ tail) ≡ length value = be_number-be_bytes 4 (length value) tail (omega arith) in
    let at_body : drop 8 bytes ≡ tail = sym (drop-drop 4 4 bytes) ∙ ap (drop 4) at_next ∙ drop_at next tail 4 next_size in
    let at_value : drop (length key) tail ≡ value ++ (spelled ++ rest) = drop_at key (value ++ (spelled ++ rest)) (length key) refl in
    let at_seq : drop whole bytes ≡ spelled ++ rest =
    sym (drop-drop (length value) (8 + length key) bytes) ∙ ap (drop (length value)) (sym (drop-drop (length key) 8 bytes) ∙ ap (drop (length key)) at_body ∙ at_value) ∙ drop_at value (spelled ++ rest) (length value) refl in
    let number = seq_at-seq_bytes with_seq whole seq rest small numbered in
    let ends : whole + length spelled ≡ length (parts_bytes key value spelled) = sym (length-parts_bytes key value spelled) in
    ap (parts_at with_seq) (parts_bytes-append key value spelled rest)
    ∙ rw (le-ltb (length bytes) 8 (omega arith), k, at_next, v, le-ltb (length bytes) whole (omega arith), at_seq, number, at_body, at_value, take_at key (value ++ (spelled ++ rest)) (length key) refl, take_at value (spelled ++ rest) (length value) refl, ends) refl
