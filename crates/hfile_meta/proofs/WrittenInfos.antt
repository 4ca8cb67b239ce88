-- What is written is a file info of its pairs.
use Rattle.std.proofs.Common.{◌≡◌, ℕ, ◌+◌, ◌*◌, ◌^◌, ◌<◌, ◌≤◌, List, [], ◌∷◌, ◌++◌, length, map, refl, ap, sym, arith}
use Rattle.std.proofs.lemmas.List.{append-nil, length-append}
use Rattle.wire_fields.specs.Varint.{varint}
use Rattle.wire_fields.specs.Fields.{Part, text, field_bytes}
use Rattle.wire_fields.specs.Message.{message_bytes, texts, AreParts, IsMessage}
use Rattle.hfile_meta.specs.Info.{ArePairs, IsInfo, IsPair}
use Rattle.hfile_meta.specs.Written.{pair_bytes, pair_fields, written_info}

-- a text is not longer than its field
text_below : (id : ℕ) (bytes : List ℕ) → length bytes ≤ length (field_bytes id (text bytes))
unfolding field_bytes
text_below id bytes =
    let whole = length-append (varint (8 * id + 2)) (varint (length bytes) ++ bytes) in
    let inner = length-append (varint (length bytes)) bytes in
    omega arith

-- ---- a pair

abbrev key_and_value : List ℕ × List ℕ → List (ℕ × Part)
key_and_value pair = (1, text pair.0) ∷ (2, text pair.1) ∷ []

pair_message : (pair : List ℕ × List ℕ) → length (pair_bytes pair) < 2 ^ 64 → IsMessage (pair_bytes pair) (key_and_value pair)
unfolding pair_bytes
pair_message pair short =
    let both = length-append (field_bytes 1 (text pair.0)) (field_bytes 2 (text pair.1)) in
    let first = text_below 1 pair.0 in
    let second = text_below 2 pair.1 in
    (((((omega arith), (omega arith)), (omega arith)), ((((omega arith), (omega arith)), (omega arith)), tt)), ap (λ (t : List ℕ). field_bytes 1 (text pair.0) ++ t) (sym (append-nil (field_bytes 2 (text pair.1)))))

pair_is : (pair : List ℕ × List ℕ) → length (pair_bytes pair) < 2 ^ 64 → IsPair (pair_bytes pair) pair
pair_is pair short = (key_and_value pair, pair_message pair short, refl, refl)

-- ---- all pairs

abbrev parts_of : List (List ℕ × List ℕ) → List (ℕ × Part)
parts_of pairs = map (λ (pair : List ℕ × List ℕ). (1, text (pair_bytes pair))) pairs

fields_are : (pairs : List (List ℕ × List ℕ)) → pair_fields pairs ≡ message_bytes (parts_of pairs)
fields_are [] = refl
fields_are (pair ∷ pairs) = ap (λ (t : List ℕ). field_bytes 1 (text (pair_bytes pair)) ++ t) (fields_are pairs)

-- the fields of pairs that are short enough fit, and have the pairs
parts_fit : (pairs : List (List ℕ × List ℕ)) → length (pair_fields pairs) < 2 ^ 64 → AreParts (parts_of pairs)
parts_fit [] short = tt
parts_fit (pair ∷ pairs) short =
    let whole = length-append (field_bytes 1 (text (pair_bytes pair))) (pair_fields pairs) in
    let here = text_below 1 (pair_bytes pair) in
    (((((omega arith), (omega arith)), (omega arith))), parts_fit pairs (omega arith))

pairs_are : (pairs : List (List ℕ × List ℕ)) → length (pair_fields pairs) < 2 ^ 64 → ArePairs (texts 1 (parts_of pairs)) pairs
pairs_are [] short = tt
pairs_are (pair ∷ pairs) short =
    let whole = length-append (field_bytes 1 (text (pair_bytes pair))) (pair_fields pairs) in
    let here = text_below 1 (pair_bytes pair) in
    (pair_is pair (omega arith), pairs_are pairs (omega arith))

pub info_written : (pairs : List (List ℕ × List ℕ)) → length (pair_fields pairs) < 2 ^ 64 → IsInfo (written_info pairs) pairs
unfolding written_info
info_written pairs short = record {
  message = pair_fields pairs;
  parts = parts_of pairs;
  small = short;
  whole = refl;
  is = (parts_fit pairs short, fields_are pairs);
  are = pairs_are pairs short;
}
