-- The laws of fields: what is written is read, and what is read is spelled so.
use Rattle.std.proofs.Common.{◌≡◌, ℕ, ◌+◌, ◌-◌, ◌*◌, ◌/◌, ◌%◌, ◌^◌, ◌<◌, ◌≤◌, cond, ltb, leb, eqb, List, ◌++◌, length, take, drop, Result, Ok, Err, refl, sym, ap, subst, ◌∙◌, append_assoc, inl, inr, arith}
use Rattle.std.specs.Prelude.{IfOk}
use Rattle.std.proofs.lemmas.Bool.{le-ltb, ltb-false, leb-false, eqb-true, eqb-false, ne_eqb, eq-eqb, lt-leb}
use Rattle.std.proofs.lemmas.List.{length-append, length-drop, length-take, drop-drop, drop_at, take_at, take-append-drop}
use Rattle.byteorder.specs.Endian.{little_bytes, little_number}
use Rattle.byteorder.specs.Numbers.{little_number-reads_back, little_from-lt, length-bytes_low_first}
use Rattle.hb_wire.proofs.BigEndian.{IsBytes, IsBytes-drop}
use Rattle.hb_wire.specs.declared.fault.WireError.{WireError}
use Rattle.hb_wire.specs.declared.fault.WireError.TheVariants.{Short, Overlong, BadWire}
use Rattle.wire_fields.specs.declared.field.Field.{Field}
use Rattle.wire_fields.specs.declared.field.FieldValue.{FieldValue}
use Rattle.wire_fields.specs.declared.field.FieldValue.TheVariants.{Varint, Fixed64, Fixed32, Bytes}
use Rattle.wire_fields.specs.Varint.{varint, varint_at}
use Rattle.wire_fields.specs.Fields.{Part, number, eight, four, text, kind, value_bytes, field_bytes, Fits, IsId, ◌>>=◌, fixed_at, text_of, value_at, field_of, field_at, part_of, Finds}
use Rattle.wire_fields.proofs.Low.{bytes_low_first-little_from}
use Rattle.wire_fields.proofs.Varints.{ok, ok_is, chosen, varint_at-varint, IsSevens-sevens_at, IsSevens}

-- ---- what is written is read

-- a value whose bytes stand at a place
abbrev pub placed : ℕ → Part → FieldValue
placed place (number n) = Varint n
placed place (eight n) = Fixed64 n
placed place (four n) = Fixed32 n
placed place (text bytes) = Bytes (place + length (varint (length bytes))) (length bytes)

value_at-number : (id place n : ℕ) (rest : List ℕ) → n < 2 ^ 64 → value_at (8 * id + 0) place (varint n ++ rest) ≡ Ok (Varint n, length (varint n))
unfolding value_at
value_at-number id place n rest small = rw (eq-eqb ((8 * id + 0) % 8) 0 (omega arith), varint_at-varint n rest small) refl

value_at-eight : (id place n : ℕ) (rest : List ℕ) → n < 2 ^ 64 → value_at (8 * id + 1) place (little_bytes 8 n ++ rest) ≡ Ok (Fixed64 n, length (little_bytes 8 n))
unfolding value_at
value_at-eight id place n rest small =
    let long : 8 ≤ length (little_bytes 8 n ++ rest) = omega (arith, length-append (little_bytes 8 n) rest, length-bytes_low_first 0 8 n) in
    rw (ne_eqb ((8 * id + 1) % 8) 0 (omega arith), eq-eqb ((8 * id + 1) % 8) 1 (omega arith)) (rw (le-ltb (length (little_bytes 8 n ++ rest)) 8 long) (ap (λ (m : ℕ). ok (Fixed64 m, 8)) (little_number-reads_back 8 n rest small)))

value_at-four : (id place n : ℕ) (rest : List ℕ) → n < 2 ^ 32 → value_at (8 * id + 5) place (little_bytes 4 n ++ rest) ≡ Ok (Fixed32 n, length (little_bytes 4 n))
unfolding value_at
value_at-four id place n rest small =
    let long : 4 ≤ length (little_bytes 4 n ++ rest) = omega (arith, length-append (little_bytes 4 n) rest, length-bytes_low_first 0 4 n) in
    rw (ne_eqb ((8 * id + 5) % 8) 0 (omega arith), ne_eqb ((8 * id + 5) % 8) 1 (omega arith), eq-eqb ((8 * id + 5) % 8) 5 (omega arith)) (rw (le-ltb (length (little_bytes 4 n ++ rest)) 4 long) (ap (λ (m : ℕ). ok (Fixed32 m, 4)) (little_number-reads_back 4 n rest small)))

text_of-bytes : (place : ℕ) (bytes rest : List ℕ) → length bytes < 2 ^ 64
    → text_of place (length bytes, length (varint (length bytes))) ((varint (length bytes) ++ bytes) ++ rest) ≡ Ok (Bytes (place + length (varint (length bytes))) (length bytes), length (varint (length bytes) ++ bytes))
text_of-bytes place bytes rest small =
    let v = varint (length bytes) in
    let whole = length-append (v ++ bytes) rest in
    let both = length-append v bytes in
    let left : length bytes ≤ length ((v ++ bytes) ++ rest) - length v = omega arith in
    rw (le-ltb (length ((v ++ bytes) ++ rest) - length v) (length bytes) left) (ap (λ (k : ℕ). ok (Bytes (place + length v) (length bytes), k)) (sym both))

value_at-text : (id place : ℕ) (bytes rest : List ℕ) → length bytes < 2 ^ 64
    → value_at (8 * id + 2) place ((varint (length bytes) ++ bytes) ++ rest) ≡ Ok (Bytes (place + length (varint (length bytes))) (length bytes), length (varint (length bytes) ++ bytes))
unfolding value_at
value_at-text id place bytes rest small =
    let read : varint_at ((varint (length bytes) ++ bytes) ++ rest) ≡ Ok (length bytes, length (varint (length bytes))) =
    ap varint_at (append_assoc (varint (length bytes)) bytes rest) ∙ varint_at-varint (length bytes) (bytes ++ rest) small in
    rw (ne_eqb ((8 * id + 2) % 8) 0 (omega arith), ne_eqb ((8 * id + 2) % 8) 1 (omega arith), ne_eqb ((8 * id + 2) % 8) 5 (omega arith), eq-eqb ((8 * id + 2) % 8) 2 (omega arith), read) (text_of-bytes place bytes rest small)

value_at-value_bytes : (id place : ℕ) (part : Part) (rest : List ℕ) → Fits part → value_at (8 * id + kind part) place (value_bytes part ++ rest) ≡ Ok (placed place part, length (value_bytes part))
value_at-value_bytes id place (number n) rest fits = value_at-number id place n rest fits
value_at-value_bytes id place (eight n) rest fits = value_at-eight id place n rest fits
value_at-value_bytes id place (four n) rest fits = value_at-four id place n rest fits
value_at-value_bytes id place (text bytes) rest fits = value_at-text id place bytes rest fits

kind-small : (part : Part) → kind part < 6
kind-small (number n) = omega arith
kind-small (eight n) = omega arith
kind-small (four n) = omega arith
kind-small (text bytes) = omega arith

field_of-tag : (place id k used : ℕ) (bytes : List ℕ) (v : FieldValue × ℕ) → IsId id → k < 6 → value_at (8 * id + k) (place + used) (drop used bytes) ≡ Ok v
    → field_of place (8 * id + k, used) bytes ≡ Ok (record { number = id; value = v.0 }, used + v.1)
field_of-tag place id k used bytes v is small read =
    let low = is.0 in
    let high = is.1 in
    let back : (8 * id + k) / 8 ≡ id = omega arith in
    rw (lt-leb (2 ^ 32) (8 * id + k) (omega arith), back, ne_eqb id 0 (omega arith), read) refl

pub field_at-field_bytes : (place id : ℕ) (part : Part) (rest : List ℕ) → IsId id → Fits part
    → field_at place (field_bytes id part ++ rest) ≡ Ok (record { number = id; value = placed (place + length (varint (8 * id + kind part))) part }, length (field_bytes id part))
unfolding field_at field_bytes
field_at-field_bytes place id part rest is fits =
    let tag = varint (8 * id + kind part) in
    let bytes = tag ++ (value_bytes part ++ rest) in
    let regrouped : (tag ++ value_bytes part) ++ rest ≡ bytes = append_assoc tag (value_bytes part) rest in
    let k = kind-small part in
    let high = is.1 in
    let first : varint_at bytes ≡ Ok (8 * id + kind part, length tag) = varint_at-varint (8 * id + kind part) (value_bytes part ++ rest) (omega arith) in
    let behind : drop (length tag) bytes ≡ value_bytes part ++ rest = drop_at tag (value_bytes part ++ rest) (length tag) refl in
    let value : value_at (8 * id + kind part) (place + length tag) (drop (length tag) bytes) ≡ Ok (placed (place + length tag) part, length (value_bytes part)) =
    ap (value_at (8 * id + kind part) (place + length tag)) behind ∙ value_at-value_bytes id (place + length tag) part rest fits in
    let whole = field_of-tag place id (kind part) (length tag) bytes (placed (place + length tag) part, length (value_bytes part)) is k value in
    ap (λ (b : List ℕ). varint_at b >>= λ t. field_of place t b) regrouped ∙ ap (λ r. r >>= λ t. field_of place t bytes) first ∙ whole
    ∙ ap (λ (n : ℕ). ok {A = Field × ℕ} (record { number = id; value = placed (place + length tag) part }, n)) (sym (length-append tag (value_bytes part)))

-- ---- what is read is spelled so

bind_ok : {A B : Type 0} (r : Result A WireError) (f : A → Result B WireError) (y : B) → (r >>= f) ≡ Ok y → (x : A) × (r ≡ Ok x) × (f x ≡ Ok y)
bind_ok (Ok x) f y e = (x, refl, e)
bind_ok (Err d) f y e = absurd cc

-- a value that was read, whose kind is told
record IsValue (wire place : ℕ) (bytes : List ℕ) (v : FieldValue × ℕ) : Type 0 where
  part : Part
  wired : kind part ≡ wire
  fits : Fits part
  parts : bytes ≡ value_bytes part ++ drop v.1 bytes
  long : v.1 ≤ length bytes
  value : v.0 ≡ placed place part

IsValue-number : (place : ℕ) (bytes : List ℕ) (n used : ℕ) → IsBytes bytes → varint_at bytes ≡ Ok (n, used) → IsValue 0 place bytes (Varint n, used)
unfolding varint_at varint
IsValue-number place bytes n used fits e =
    let is = IsSevens-sevens_at 9 bytes n used fits e in
    let small = is.small in
    record { part = number n; wired = refl; fits = omega arith; parts = is.parts; long = is.long; value = refl }

little_whole : (width : ℕ) (bytes : List ℕ) → IsBytes bytes → width ≤ length bytes → bytes ≡ little_bytes width (little_number width bytes) ++ drop width bytes
little_whole width bytes fits long = sym (take-append-drop width bytes) ∙ ap (λ (t : List ℕ). t ++ drop width bytes) (sym (bytes_low_first-little_from width bytes long fits))

IsValue-fixed : (width wire place : ℕ) (value : ℕ → FieldValue) (part : ℕ → Part) (bytes : List ℕ) (v : FieldValue × ℕ) → IsBytes bytes
    → ((n : ℕ) → kind (part n) ≡ wire) → ((n : ℕ) → n < 256 ^ width → Fits (part n)) → ((n : ℕ) → value_bytes (part n) ≡ little_bytes width n) → ((n : ℕ) → value n ≡ placed place (part n))
    → fixed_at width value bytes ≡ Ok v → IsValue wire place bytes v
IsValue-fixed width wire place value part bytes v fits wired fit spelled is e = elim (chosen (ltb (length bytes) width) (Err (Short (width - length bytes))) (Ok (value (little_number width bytes), width)) (Ok v) e) [
  | inl t ↦ let bad = t.1 in absurd cc
  | inr f ↦
      let long = ltb-false (length bytes) width f.0 in
      let n = little_number width bytes in
      let same = ok_is {A = FieldValue × ℕ} (value n, width) v f.1 in
      let made : IsValue wire place bytes (value n, width) = record {
        part = part n;
        wired = wired n;
        fits = fit n (little_from-lt 0 width bytes fits);
        parts = little_whole width bytes fits long ∙ ap (λ (t : List ℕ). t ++ drop width bytes) (sym (spelled n));
        long = long;
        value = is n;
      } in
      subst (λ (x : FieldValue × ℕ). IsValue wire place bytes x) same made
]

IsValue-text : (place : ℕ) (bytes : List ℕ) (n : ℕ × ℕ) (v : FieldValue × ℕ) → IsSevens 9 bytes n.0 n.1 → text_of place n bytes ≡ Ok v → IsValue 2 place bytes v
unfolding varint
IsValue-text place bytes n v is e = elim (chosen (ltb (length bytes - n.1) n.0) (Err (Short (n.0 - (length bytes - n.1)))) (Ok (Bytes (place + n.1) n.0, n.1 + n.0)) (Ok v) e) [
  | inl t ↦ let bad = t.1 in absurd cc
  | inr f ↦
      let left = ltb-false (length bytes - n.1) n.0 f.0 in
      let same = ok_is {A = FieldValue × ℕ} (Bytes (place + n.1) n.0, n.1 + n.0) v f.1 in
      let within = is.long in
      let small = is.small in
      let behind = drop n.1 bytes in
      let t = take n.0 behind in
      let size : length t ≡ n.0 = omega (arith, length-take n.0 behind, length-drop n.1 bytes) in
      let count : length (varint n.0) ≡ n.1 = omega (arith, ap length is.parts, length-append (varint n.0) behind, length-drop n.1 bytes) in
      let rest : drop n.0 behind ≡ drop (n.1 + n.0) bytes = drop-drop n.0 n.1 bytes in
      let cut : behind ≡ t ++ drop (n.1 + n.0) bytes = sym (take-append-drop n.0 behind) ∙ ap (λ (r : List ℕ). t ++ r) rest in
      let made : IsValue 2 place bytes (Bytes (place + n.1) n.0, n.1 + n.0) = record {
        part = text t;
        wired = refl;
        fits = let limit : n.0 < 2 ^ 64 = omega arith in rw size limit;
        parts = is.parts ∙ ap (λ (r : List ℕ). varint n.0 ++ r) cut ∙ sym (append_assoc (varint n.0) t (drop (n.1 + n.0) bytes)) ∙ ap (λ (k : ℕ). (varint k ++ t) ++ drop (n.1 + n.0) bytes) (sym size);
        long = omega arith;
        value = ap (λ (k : ℕ). Bytes (place + k) n.0) (sym count) ∙ ap (λ (k : ℕ). Bytes (place + length (varint k)) k) (sym size);
      } in
      subst (λ (x : FieldValue × ℕ). IsValue 2 place bytes x) same made
]

IsValue-value_at : (tag place : ℕ) (bytes : List ℕ) (v : FieldValue × ℕ) → IsBytes bytes → value_at tag place bytes ≡ Ok v → IsValue (tag % 8) place bytes v
unfolding value_at varint_at
IsValue-value_at tag place bytes v fits e =
    let varied : Result (FieldValue × ℕ) WireError = varint_at bytes >>= λ n. Ok (Varint n.0, n.1) in
    let texts : Result (FieldValue × ℕ) WireError = varint_at bytes >>= λ n. text_of place n bytes in
    elim (chosen (eqb (tag % 8) 0) varied (cond (eqb (tag % 8) 1) (fixed_at 8 Fixed64 bytes) (cond (eqb (tag % 8) 5) (fixed_at 4 Fixed32 bytes) (cond (eqb (tag % 8) 2) texts (Err (BadWire tag))))) (Ok v) e) [
      | inl a ↦
          let read = bind_ok (varint_at bytes) (λ (n : ℕ × ℕ). ok {A = FieldValue × ℕ} (Varint n.0, n.1)) v a.1 in
          let n = read.0 in
          let same = ok_is {A = FieldValue × ℕ} (Varint n.0, n.1) v read.2 in
          let wire = eqb-true (tag % 8) 0 a.0 in
          let made = IsValue-number place bytes n.0 n.1 fits read.1 in
          subst (λ (w : ℕ). IsValue w place bytes v) (sym wire) (subst (λ (x : FieldValue × ℕ). IsValue 0 place bytes x) same made)
      | inr a' ↦ elim (chosen (eqb (tag % 8) 1) (fixed_at 8 Fixed64 bytes) (cond (eqb (tag % 8) 5) (fixed_at 4 Fixed32 bytes) (cond (eqb (tag % 8) 2) texts (Err (BadWire tag)))) (Ok v) a'.1) [
        | inl b ↦ let wire = eqb-true (tag % 8) 1 b.0 in subst (λ (w : ℕ). IsValue w place bytes v) (sym wire) (IsValue-fixed 8 1 place Fixed64 eight bytes v fits (λ n. refl) (λ n small. small) (λ n. refl) (λ n. refl) b.1)
        | inr b' ↦ elim (chosen (eqb (tag % 8) 5) (fixed_at 4 Fixed32 bytes) (cond (eqb (tag % 8) 2) texts (Err (BadWire tag))) (Ok v) b'.1) [
          | inl d ↦ let wire = eqb-true (tag % 8) 5 d.0 in subst (λ (w : ℕ). IsValue w place bytes v) (sym wire) (IsValue-fixed 4 5 place Fixed32 four bytes v fits (λ n. refl) (λ n small. small) (λ n. refl) (λ n. refl) d.1)
          | inr d' ↦ elim (chosen (eqb (tag % 8) 2) texts (Err (BadWire tag)) (Ok v) d'.1) [
            | inl g ↦
                let read = bind_ok (varint_at bytes) (λ (n : ℕ × ℕ). text_of place n bytes) v g.1 in
                let n = read.0 in
                let wire = eqb-true (tag % 8) 2 g.0 in
                subst (λ (w : ℕ). IsValue w place bytes v) (sym wire) (IsValue-text place bytes n v (IsSevens-sevens_at 9 bytes n.0 n.1 fits read.1) read.2)
            | inr g' ↦ let bad = g'.1 in absurd cc
          ]
        ]
      ]
    ]

-- a field that was read
pub record IsField (place : ℕ) (bytes : List ℕ) (f : Field) (used : ℕ) : Type 0 where
  pub part : Part
  pub id : IsId f.number
  pub fits : Fits part
  pub parts : bytes ≡ field_bytes f.number part ++ drop used bytes
  pub long : used ≤ length bytes
  pub some : 0 < used
  pub value : f.value ≡ placed (place + length (varint (8 * f.number + kind part))) part

IsField-value : (place : ℕ) (tag : ℕ × ℕ) (bytes : List ℕ) (v : FieldValue × ℕ) → IsSevens 9 bytes tag.0 tag.1 → tag.0 < 2 ^ 32 → 1 ≤ tag.0 / 8
    → IsValue (tag.0 % 8) (place + tag.1) (drop tag.1 bytes) v → IsField place bytes (record { number = tag.0 / 8; value = v.0 }) (tag.1 + v.1)
unfolding varint field_bytes
IsField-value place tag bytes v is small some read =
    let behind = drop tag.1 bytes in
    let wired = read.wired in
    let whole : 8 * (tag.0 / 8) + kind read.part ≡ tag.0 = omega arith in
    let within = is.long in
    let count : length (varint tag.0) ≡ tag.1 = omega (arith, ap length is.parts, length-append (varint tag.0) behind, length-drop tag.1 bytes) in
    let rest : drop v.1 behind ≡ drop (tag.1 + v.1) bytes = drop-drop v.1 tag.1 bytes in
    let cut : behind ≡ value_bytes read.part ++ drop (tag.1 + v.1) bytes = read.parts ∙ ap (λ (r : List ℕ). value_bytes read.part ++ r) rest in
    let long = read.long in
    let first = is.some in
    record {
      part = read.part;
      id = (some, omega arith);
      fits = read.fits;
      parts = is.parts ∙ ap (λ (r : List ℕ). varint tag.0 ++ r) cut ∙ sym (append_assoc (varint tag.0) (value_bytes read.part) (drop (tag.1 + v.1) bytes))
          ∙ ap (λ (k : ℕ). (varint k ++ value_bytes read.part) ++ drop (tag.1 + v.1) bytes) (sym whole);
      long = omega (arith, length-drop tag.1 bytes);
      some = omega arith;
      value = read.value ∙ ap (λ (k : ℕ). placed (place + k) read.part) (sym count) ∙ ap (λ (k : ℕ). placed (place + length (varint k)) read.part) (sym whole);
    }

IsField-field_of : (place : ℕ) (tag : ℕ × ℕ) (bytes : List ℕ) (f : Field) (used : ℕ) → IsBytes bytes → IsSevens 9 bytes tag.0 tag.1 → field_of place tag bytes ≡ Ok (f, used) → IsField place bytes f used
IsField-field_of place tag bytes f used fits is e =
    let valued : Result (Field × ℕ) WireError = value_at tag.0 (place + tag.1) (drop tag.1 bytes) >>= λ value. Ok (record { number = tag.0 / 8; value = value.0 }, tag.1 + value.1) in
    elim (chosen (leb (2 ^ 32) tag.0) (Err Overlong) (cond (eqb (tag.0 / 8) 0) (Err (BadWire tag.0)) valued) (Ok (f, used)) e) [
      | inl a ↦ let bad = a.1 in absurd cc
      | inr a' ↦ elim (chosen (eqb (tag.0 / 8) 0) (Err (BadWire tag.0)) valued (Ok (f, used)) a'.1) [
        | inl b ↦ let bad = b.1 in absurd cc
        | inr b' ↦
            let read = bind_ok (value_at tag.0 (place + tag.1) (drop tag.1 bytes)) (λ (value : FieldValue × ℕ). ok {A = Field × ℕ} (record { number = tag.0 / 8; value = value.0 }, tag.1 + value.1)) (f, used) b'.1 in
            let v = read.0 in
            let same = ok_is {A = Field × ℕ} (record { number = tag.0 / 8; value = v.0 }, tag.1 + v.1) (f, used) read.2 in
            let small = leb-false (2 ^ 32) tag.0 a'.0 in
            let not_zero = eqb-false (tag.0 / 8) 0 b'.0 in
            let value = IsValue-value_at tag.0 (place + tag.1) (drop tag.1 bytes) v (IsBytes-drop tag.1 bytes fits) read.1 in
            subst (λ (x : Field × ℕ). IsField place bytes x.0 x.1) same (IsField-value place tag bytes v is small (omega arith) value)
      ]
    ]

pub IsField-field_at : (place : ℕ) (bytes : List ℕ) (f : Field) (used : ℕ) → IsBytes bytes → field_at place bytes ≡ Ok (f, used) → IsField place bytes f used
unfolding field_at varint_at
IsField-field_at place bytes f used fits e =
    let read = bind_ok (varint_at bytes) (λ (tag : ℕ × ℕ). field_of place tag bytes) (f, used) e in
    IsField-field_of place read.0 bytes f used fits (IsSevens-sevens_at 9 bytes read.0.0 read.0.1 fits read.1) read.2

-- ---- values by their places in the whole

drop_two : (a b : ℕ) (whole bytes : List ℕ) → drop a whole ≡ bytes → drop (a + b) whole ≡ drop b bytes
drop_two a b whole bytes e = sym (drop-drop b a whole) ∙ ap (drop b) e

-- what was placed is found there
pub part_of-placed : (whole : List ℕ) (at : ℕ) (tag : List ℕ) (part : Part) (rest : List ℕ) → drop at whole ≡ (tag ++ value_bytes part) ++ rest → part_of whole (placed (at + length tag) part) ≡ part
part_of-placed whole at tag (number n) rest e = refl
part_of-placed whole at tag (eight n) rest e = refl
part_of-placed whole at tag (four n) rest e = refl
part_of-placed whole at tag (text bytes) rest e =
    let v = varint (length bytes) in
    let one : drop (at + length tag) whole ≡ (v ++ bytes) ++ rest = drop_two at (length tag) whole _ e ∙ ap (drop (length tag)) (append_assoc tag (v ++ bytes) rest) ∙ drop_at tag ((v ++ bytes) ++ rest) (length tag) refl in
    let two : drop (at + length tag + length v) whole ≡ bytes ++ rest = drop_two (at + length tag) (length v) whole _ one ∙ ap (drop (length v)) (append_assoc v bytes rest) ∙ drop_at v (bytes ++ rest) (length v) refl in
    ap text (ap (take (length bytes)) two ∙ take_at bytes rest (length bytes) refl)

-- a field that was read at a place of the whole
pub found_field : (whole : List ℕ) (at : ℕ) (r : Result (Field × ℕ) WireError) → IsBytes whole → r ≡ field_at at (drop at whole)
    → IfOk r (λ x. IsId x.0.number × Fits (part_of whole x.0.value) × (drop at whole ≡ field_bytes x.0.number (part_of whole x.0.value) ++ drop (at + x.1) whole))
unfolding field_bytes
found_field whole at (Err d) fits e = tt
found_field whole at (Ok x) fits e =
    let is = IsField-field_at at (drop at whole) x.0 x.1 (IsBytes-drop at whole fits) (sym e) in
    let same : part_of whole x.0.value ≡ is.part = ap (part_of whole) is.value ∙ part_of-placed whole at (varint (8 * x.0.number + kind is.part)) is.part (drop x.1 (drop at whole)) is.parts in
    let whole_part : drop at whole ≡ field_bytes x.0.number is.part ++ drop (at + x.1) whole = is.parts ∙ ap (λ (r : List ℕ). field_bytes x.0.number is.part ++ r) (drop-drop x.1 at whole) in
    (is.id, subst Fits (sym same) is.fits, subst (λ (p : Part). drop at whole ≡ field_bytes x.0.number p ++ drop (at + x.1) whole) (sym same) whole_part)

pub some_field : (whole : List ℕ) (at : ℕ) (r : Result (Field × ℕ) WireError) → IsBytes whole → r ≡ field_at at (drop at whole) → IfOk r (λ x. 0 < x.1)
some_field whole at (Err d) fits e = tt
some_field whole at (Ok x) fits e = let is = IsField-field_at at (drop at whole) x.0 x.1 (IsBytes-drop at whole fits) (sym e) in is.some

-- what is spelled at a place is found there
pub Finds-field_bytes : (whole : List ℕ) (at id : ℕ) (part : Part) (rest : List ℕ) (r : Result (Field × ℕ) WireError) → r ≡ field_at at (drop at whole) → IsId id → Fits part → drop at whole ≡ field_bytes id part ++ rest → Finds whole r id part
unfolding field_bytes
Finds-field_bytes whole at id part rest r e is fits spelled =
    let read = e ∙ ap (field_at at) spelled ∙ field_at-field_bytes at id part rest is fits in
    subst (λ (y : Result (Field × ℕ) WireError). Finds whole y id part) (sym read) (refl, part_of-placed whole at (varint (8 * id + kind part)) part rest spelled, refl)
