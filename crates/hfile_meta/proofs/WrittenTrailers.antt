-- What is written is a trailer of 212 bytes, and is read.
use Rattle.std.proofs.Common.{◌≡◌, ℕ, zero, suc, ◌+◌, ◌-◌, ◌*◌, ◌/◌, ◌^◌, ◌<◌, ◌≤◌, List, [], ◌∷◌, ◌++◌, length, take, drop, replicate, Some, Result, refl, sym, ap, ◌∙◌, append_assoc, inl, inr, arith}
use Rattle.std.proofs.lemmas.Bool.{cases_lt, lt-ltb, le-ltb}
use Rattle.std.proofs.lemmas.List.{append-nil, drop_at, length-append, length-replicate, take-replicate}
use Rattle.hb_wire.specs.Fixed.{be_bytes}
use Rattle.hb_wire.proofs.BigEndian.{length-be_bytes}
use Rattle.wire_fields.specs.Varint.{sevens, varint}
use Rattle.wire_fields.specs.Fields.{Part, number, text, field_bytes}
use Rattle.wire_fields.specs.Message.{message_bytes, IsMessage, AreParts}
use Rattle.hfile_meta.specs.declared.trailer.Trailer.{Trailer}
use Rattle.hfile_meta.specs.declared.fault.MetaError.{MetaError}
use Rattle.hfile_meta.specs.Trailer.{magic, delimited, padded, trailer_bytes, trailer_at, IsTrailer, told, trailer_of, judged}
use Rattle.hfile_meta.specs.Written.{comparator, comparator_bytes, first_bytes, other_bytes, written_parts, written_message, written_trailer, FitsTrailer}

-- ---- how long it is

length-sevens : (more n : ℕ) → length (sevens more n) ≤ 1 + more
length-sevens zero n = omega arith
length-sevens (suc more) n = elim (cases_lt n 128) [
  | inl low ↦ rw (lt-ltb n 128 low) (omega arith)
  | inr high ↦ let on = length-sevens more (n / 128) in rw (le-ltb n 128 high) (omega arith)
]

length-varint : (n : ℕ) → length (varint n) ≤ 10
unfolding varint
length-varint n = length-sevens 9 n

length-number : (id n : ℕ) → 8 * id < 128 → length (field_bytes id (number n)) ≤ 11
unfolding field_bytes varint
length-number id n small =
    let low : 8 * id + 0 < 128 = omega arith in
    let tag : length (sevens 9 (8 * id + 0)) ≡ 1 = rw (lt-ltb (8 * id + 0) 128 low) refl in
    let value = length-sevens 9 n in
    omega (arith, length-append (sevens 9 (8 * id + 0)) (sevens 9 n))

length-comparator : length (field_bytes 11 (text comparator)) ≡ 44
unfolding field_bytes varint
length-comparator = refl

fields_append : (id : ℕ) (part : Part) (parts : List (ℕ × Part)) → length (message_bytes ((id, part) ∷ parts)) ≡ length (field_bytes id part) + length (message_bytes parts)
fields_append id part parts = length-append (field_bytes id part) (message_bytes parts)

more_number : (id n most : ℕ) (parts : List (ℕ × Part)) → 8 * id < 128 → length (message_bytes parts) ≤ most → length (message_bytes ((id, number n) ∷ parts)) ≤ 11 + most
more_number id n most parts small long = omega (arith, fields_append id (number n) parts, length-number id n small)

more_text : (most : ℕ) (parts : List (ℕ × Part)) → length (message_bytes parts) ≤ most → length (message_bytes ((11, text comparator) ∷ parts)) ≤ 44 + most
more_text most parts long = omega (arith, fields_append 11 (text comparator) parts, length-comparator)

length-written_message : (t : Trailer) → length (written_message t) ≤ 165
unfolding written_message
length-written_message t =
    let p12 : List (ℕ × Part) = (12, number t.compression) ∷ [] in
    let p11 : List (ℕ × Part) = (11, text comparator) ∷ p12 in
    let p10 : List (ℕ × Part) = (10, number t.last) ∷ p11 in
    let p9 : List (ℕ × Part) = (9, number t.first) ∷ p10 in
    let p8 : List (ℕ × Part) = (8, number t.levels) ∷ p9 in
    let p7 : List (ℕ × Part) = (7, number t.entries) ∷ p8 in
    let p6 : List (ℕ × Part) = (6, number t.meta_count) ∷ p7 in
    let p5 : List (ℕ × Part) = (5, number t.data_count) ∷ p6 in
    let p4 : List (ℕ × Part) = (4, number t.total_bytes) ∷ p5 in
    let p3 : List (ℕ × Part) = (3, number t.index_bytes) ∷ p4 in
    let p2 : List (ℕ × Part) = (2, number t.load_at) ∷ p3 in
    more_number 1 t.info_at 154 p2 (omega arith) (more_number 2 t.load_at 143 p3 (omega arith) (more_number 3 t.index_bytes 132 p4 (omega arith)
    (more_number 4 t.total_bytes 121 p5 (omega arith) (more_number 5 t.data_count 110 p6 (omega arith) (more_number 6 t.meta_count 99 p7 (omega arith)
    (more_number 7 t.entries 88 p8 (omega arith) (more_number 8 t.levels 77 p9 (omega arith) (more_number 9 t.first 66 p10 (omega arith)
    (more_number 10 t.last 55 p11 (omega arith) (more_text 11 p12 (more_number 12 t.compression 0 [] (omega arith) (omega arith))))))))))))

-- the message is its two halves
pub message_halves : (t : Trailer) → written_message t ≡ first_bytes t ++ other_bytes t
unfolding written_message first_bytes other_bytes comparator_bytes
message_halves t = simp (append_assoc, append-nil)

pub written_by : (a b c : List ℕ) (t : Trailer) → a ≡ [] → b ≡ a ++ first_bytes t → c ≡ b ++ other_bytes t → c ≡ written_message t
written_by a b c t none first other = other ∙ ap (λ (x : List ℕ). x ++ other_bytes t) (first ∙ ap (λ (x : List ℕ). x ++ first_bytes t) none) ∙ sym (message_halves t)

pub delimited_short : (message : List ℕ) (t : Trailer) → message ≡ written_message t → length (delimited message) ≤ 200
delimited_short message t e =
    let long = length-written_message t in
    let count = length-varint (length message) in
    omega (arith, ap length e, length-append (varint (length message)) message)

length-written_trailer : (t : Trailer) → length (written_trailer t) ≡ 212
unfolding written_trailer
length-written_trailer t =
    let m = written_message t in
    let short = delimited_short m t refl in
    let zeros = 200 - length (delimited m) in
    let body : length (padded m zeros) ≡ 200 = omega (arith, length-append (delimited m) (replicate zeros 0), length-replicate {A = ℕ} zeros 0) in
    let last = length-be_bytes 3 2 in
    omega (arith, length-append (padded m zeros) (3 ∷ be_bytes 3 2))

-- ---- that it is read

are_parts : (t : Trailer) → FitsTrailer t → AreParts (written_parts t)
are_parts t f =
    let c = f.compression in (
      ((omega arith, omega arith), f.info_at),
      (
        ((omega arith, omega arith), f.load_at),
        (
          ((omega arith, omega arith), f.index_bytes),
          (
            ((omega arith, omega arith), f.total_bytes),
            (
              ((omega arith, omega arith), f.data_count),
              (
                ((omega arith, omega arith), f.meta_count),
                (
                  ((omega arith, omega arith), f.entries),
                  (
                    ((omega arith, omega arith), f.levels),
                    (((omega arith, omega arith), f.first), (((omega arith, omega arith), f.last), (((omega arith, omega arith), omega arith), (((omega arith, omega arith), omega arith), tt)))),
                  ),
                ),
              ),
            ),
          ),
        ),
      ),
    )

pub IsMessage-written : (t : Trailer) → FitsTrailer t → IsMessage (written_message t) (written_parts t)
unfolding written_message
IsMessage-written t f = (are_parts t f, refl)

trailer_of-written : (t : Trailer) → FitsTrailer t → trailer_of (told (written_parts t)) ≡ Some t
unfolding trailer_of
trailer_of-written t f = rw (lt-ltb t.compression (2 ^ 32) f.compression) refl

pub place-written : (bytes front : List ℕ) (t : Trailer) → bytes ≡ front ++ written_trailer t → (212 ≤ length bytes) × (trailer_at bytes ≡ length front)
place-written bytes front t e =
    let all = length-append front (written_trailer t) in
    let size = length-written_trailer t in
    (omega (arith, ap length e), omega (arith, ap length e))

pub IsTrailer-written : (bytes front : List ℕ) (t : Trailer) → bytes ≡ front ++ written_trailer t → IsTrailer bytes (written_message t) (200 - length (delimited (written_message t))) 3
unfolding written_trailer
IsTrailer-written bytes front t e =
    let at = place-written bytes front t e in
    record { is_minor = inr refl; whole = ap (λ (k : ℕ). drop k bytes) at.1 ∙ ap (drop (length front)) e ∙ drop_at front (written_trailer t) (length front) refl }

-- an answer for each trailer is one for what is written
pub read_back : (bytes : List ℕ) (r : Result Trailer MetaError)
    → ((message : List ℕ) (parts : List (ℕ × Part)) (zeros minor : ℕ) → 212 ≤ length bytes → IsTrailer bytes message zeros minor → IsMessage message parts → r ≡ judged (trailer_at bytes) (trailer_of (told parts)))
    → (front : List ℕ) (t : Trailer) → FitsTrailer t → bytes ≡ front ++ written_trailer t → r ≡ judged (length front) (Some t)
read_back bytes r answers front t f e =
    let at = place-written bytes front t e in
    answers (written_message t) (written_parts t) (200 - length (delimited (written_message t))) 3 at.0 (IsTrailer-written bytes front t e) (IsMessage-written t f)
    ∙ ap (judged (trailer_at bytes)) (trailer_of-written t f) ∙ ap (λ (k : ℕ). judged k (Some t)) at.1

-- ---- for the code

pub zeros_behind : (zeros : ℕ) → zeros ≤ 200 → take {A = ℕ} zeros (replicate 200 0) ≡ replicate zeros 0
zeros_behind zeros few = take-replicate {X = ℕ} zeros 200 0 few

pub framed_as : (a b c d e message : List ℕ) (zeros : ℕ) → a ≡ magic → b ≡ a ++ varint (length message) → c ≡ b ++ message → d ≡ c ++ replicate zeros 0 → e ≡ d ++ (3 ∷ 0 ∷ 0 ∷ 2 ∷ []) → zeros ≡ 200 - length (delimited message)
    → e ≡ trailer_bytes message (200 - length (delimited message)) 3
unfolding be_bytes
framed_as a b c d e message zeros ea eb ec ed ee size =
    let v = varint (length message) in
    let rep = replicate zeros 0 in
    let last : List ℕ = 3 ∷ 0 ∷ 0 ∷ 2 ∷ [] in
    let three : c ≡ magic ++ (v ++ message) = ec ∙ ap (λ (x : List ℕ). x ++ message) (eb ∙ ap (λ (x : List ℕ). x ++ v) ea) ∙ append_assoc magic v message in
    let four : d ≡ magic ++ ((v ++ message) ++ rep) = ed ∙ ap (λ (x : List ℕ). x ++ rep) three ∙ append_assoc magic (v ++ message) rep in
    let five : e ≡ magic ++ (((v ++ message) ++ rep) ++ last) = ee ∙ ap (λ (x : List ℕ). x ++ last) four ∙ append_assoc magic ((v ++ message) ++ rep) last in
    five ∙ ap (λ (k : ℕ). trailer_bytes message k 3) size

pub framed_len : (a b c message : List ℕ) → a ≡ magic → b ≡ a ++ varint (length message) → c ≡ b ++ message → length c ≡ 8 + length (delimited message)
framed_len a b c message ea eb ec =
    let both = length-append (varint (length message)) message in
    omega (arith, ap length ec, ap length eb, ap length ea, length-append b message, length-append a (varint (length message)))
