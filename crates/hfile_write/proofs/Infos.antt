-- The content of the file info is small.
use Rattle.std.proofs.Common.{◌≡◌, ℕ, zero, suc, ◌+◌, ◌*◌, ◌/◌, ◌^◌, ◌<◌, ◌≤◌, List, [], ◌∷◌, ◌++◌, length, Option, Some, None, inl, inr, refl, ap, arith}
use Rattle.std.specs.Prelude.{codes}
use Rattle.std.proofs.lemmas.List.{length-append}
use Rattle.std.proofs.lemmas.Bool.{cases_lt, lt-ltb, le-ltb}
use Rattle.hb_wire.proofs.BigEndian.{length-be_bytes}
use Rattle.hb_cell.specs.declared.cell.Cell.{Cell}
use Rattle.wire_fields.specs.Varint.{sevens, varint}
use Rattle.wire_fields.specs.Fields.{text, field_bytes}
use Rattle.hfile_meta.specs.Trailer.{delimited}
use Rattle.hfile_meta.specs.Written.{pair_bytes, pair_fields, written_info}
use Rattle.hfile_write.specs.declared.summary.Summary.{Summary}
use Rattle.hfile_write.specs.Summary.{average, last_key, pairs_with, IsLast}
use Rattle.hfile_write.proofs.FirstKeys.{key_short}

length-sevens : (more n : ℕ) → length (sevens more n) ≤ 1 + more
length-sevens zero n = omega arith
length-sevens (suc more) n = elim (cases_lt n 128) [
  | inl low ↦ rw (lt-ltb n 128 low) (omega arith)
  | inr high ↦ let on = length-sevens more (n / 128) in rw (le-ltb n 128 high) (omega arith)
]

length-varint : (n : ℕ) → length (varint n) ≤ 10
unfolding varint
length-varint n = length-sevens 9 n

length-text : (id : ℕ) (bytes : List ℕ) → length (field_bytes id (text bytes)) ≤ 20 + length bytes
unfolding field_bytes
length-text id bytes =
    omega (arith, length-append (varint (8 * id + 2)) (varint (length bytes) ++ bytes), length-append (varint (length bytes)) bytes, length-varint (8 * id + 2), length-varint (length bytes))

-- at most so many bytes stand for pairs
abbrev weight : List (List ℕ × List ℕ) → ℕ
weight [] = 0
weight (pair ∷ pairs) = 60 + length pair.0 + length pair.1 + weight pairs

length-pair_bytes : (pair : List ℕ × List ℕ) → length (pair_bytes pair) ≤ 40 + length pair.0 + length pair.1
unfolding pair_bytes
length-pair_bytes pair =
    omega (arith, length-append (field_bytes 1 (text pair.0)) (field_bytes 2 (text pair.1)), length-text 1 pair.0, length-text 2 pair.1)

length-pair_fields : (pairs : List (List ℕ × List ℕ)) → length (pair_fields pairs) ≤ weight pairs
length-pair_fields [] = omega arith
length-pair_fields (pair ∷ pairs) =
    omega (arith, length-append (field_bytes 1 (text (pair_bytes pair))) (pair_fields pairs), length-text 1 (pair_bytes pair), length-pair_bytes pair, length-pair_fields pairs)

weight-last_key : (last : Option Cell) → IsLast last → weight (last_key last) ≤ 65746
weight-last_key None fits = omega arith
weight-last_key (Some c) fits = let name : length (codes "hfile.LASTKEY") ≡ 13 = refl in omega (arith, key_short c fits)

weight-pairs_with : (s : Summary) (last : Option Cell) → IsLast last → weight (pairs_with s last) ≤ 66100
weight-pairs_with s last fits =
    let a : length (codes "KEY_VALUE_VERSION") ≡ 17 = refl in
    let b : length (codes "MAX_MEMSTORE_TS_KEY") ≡ 19 = refl in
    let c : length (codes "hfile.AVG_KEY_LEN") ≡ 17 = refl in
    let d : length (codes "hfile.AVG_VALUE_LEN") ≡ 19 = refl in
    omega (arith, length-be_bytes 4 1, length-be_bytes 8 s.greatest, length-be_bytes 4 (average s.key_bytes s.cells), length-be_bytes 4 (average s.value_bytes s.cells), weight-last_key last fits)

pub info_small : (s : Summary) (last : Option Cell) (content : List ℕ) → IsLast last → content ≡ written_info (pairs_with s last) → length content < 2 ^ 24
unfolding written_info
info_small s last content fits is =
    let fields = pair_fields (pairs_with s last) in
    let size : length content ≡ length (codes "PBUF" ++ delimited fields) = ap length is in
    let front : length (codes "PBUF") ≡ 4 = refl in
    omega (arith, length-append (codes "PBUF") (delimited fields), length-append (varint (length fields)) fields, length-varint (length fields), length-pair_fields (pairs_with s last), weight-pairs_with s last fits)
