-- The parts of a trailer.
use Rattle.std.proofs.Common.{◌≡◌, ℕ, ◌+◌, ◌-◌, ◌^◌, ◌<◌, ◌≤◌, List, [], ◌∷◌, ◌++◌, length, get_or, take, drop, replicate, Option, Some, None, Ok, refl, sym, ap, subst, ◌∙◌, append_assoc, arith}
use Rattle.std.specs.Prelude.{IfSome}
use Rattle.std.proofs.lemmas.List.{append-nil, take-append-drop, drop-drop, drop_at, take_at, take_all, length-append, length-drop, length-take, length-replicate}
use Rattle.byteorder.specs.Endian.{big_number}
use Rattle.hb_wire.specs.Fixed.{be_bytes, be_number}
use Rattle.hb_wire.proofs.BigEndian.{IsBytes, IsBytes-drop, length-be_bytes, be_number-be_bytes, be_bytes-be_number}
use Rattle.wire_fields.specs.Varint.{varint}
use Rattle.wire_fields.proofs.Varints.{ok, ok_is}
use Rattle.hfile_meta.specs.Trailer.{magic, delimited, padded, IsMinor, trailer_bytes, trailer_at, IsTrailer, major_of}

-- ---- a message behind its length

-- bytes that were cut behind a length are a message and zeros
pub padded_from : (bytes message rest : List ℕ) (len used : ℕ) → bytes ≡ varint len ++ drop (0 + used) bytes → len ≤ length (drop used bytes)
    → message ≡ take len (drop used bytes) → rest ≡ drop len (drop used bytes) → rest ≡ replicate (length rest) 0 → bytes ≡ padded message (length rest)
padded_from bytes message rest len used spelled long front back zeros =
    let behind = drop used bytes in
    let same : 0 + used ≡ used = omega arith in
    let size : length message ≡ len = ap length front ∙ omega (arith, length-take len behind) in
    let cut : behind ≡ message ++ rest = sym (take-append-drop len behind) ∙ ap (λ (t : List ℕ). t ++ drop len behind) (sym front) ∙ ap (λ (t : List ℕ). message ++ t) (sym back) in
    spelled ∙ ap (λ (k : ℕ). varint len ++ drop k bytes) same ∙ ap (λ (t : List ℕ). varint len ++ t) cut ∙ sym (append_assoc (varint len) message rest)
    ∙ ap (λ (k : ℕ). (varint k ++ message) ++ rest) (sym size) ∙ ap (λ (t : List ℕ). delimited message ++ t) zeros

-- the spelling of a length in front of what is behind it
pub padded_spelled : (bytes message : List ℕ) (zeros : ℕ) → bytes ≡ padded message zeros → bytes ≡ varint (length message) ++ (message ++ replicate zeros 0)
padded_spelled bytes message zeros e = e ∙ append_assoc (varint (length message)) message (replicate zeros 0)

-- what stands behind a length that was read
behind_is : (bytes message : List ℕ) (zeros used : ℕ) → bytes ≡ padded message zeros → used ≡ length (varint (length message)) → drop used bytes ≡ message ++ replicate zeros 0
behind_is bytes message zeros used e size =
    ap (drop used) (padded_spelled bytes message zeros e) ∙ drop_at (varint (length message)) (message ++ replicate zeros 0) used (sym size)

pub message_is : (bytes behind found message : List ℕ) (zeros len used : ℕ) → bytes ≡ padded message zeros → ok {A = ℕ × ℕ} (len, used) ≡ Ok (length message, length (varint (length message)))
    → behind ≡ drop used bytes → found ≡ take len behind → found ≡ message
message_is bytes behind found message zeros len used e read cut front =
    let same = ok_is {A = ℕ × ℕ} (len, used) (length message, length (varint (length message))) read in
    let size : len ≡ length message = ap (λ (x : ℕ × ℕ). x.0) same in
    front ∙ ap (take len) (cut ∙ behind_is bytes message zeros used e (ap (λ (x : ℕ × ℕ). x.1) same)) ∙ take_at message (replicate zeros 0) len (sym size)

pub zeros_are : (bytes behind rest message : List ℕ) (zeros len used : ℕ) → bytes ≡ padded message zeros → ok {A = ℕ × ℕ} (len, used) ≡ Ok (length message, length (varint (length message)))
    → behind ≡ drop used bytes → rest ≡ drop len behind → rest ≡ replicate (length rest) 0
zeros_are bytes behind rest message zeros len used e read cut back =
    let same = ok_is {A = ℕ × ℕ} (len, used) (length message, length (varint (length message))) read in
    let size : len ≡ length message = ap (λ (x : ℕ × ℕ). x.0) same in
    let are : rest ≡ replicate zeros 0 = back ∙ ap (drop len) (cut ∙ behind_is bytes message zeros used e (ap (λ (x : ℕ × ℕ). x.1) same)) ∙ drop_at message (replicate zeros 0) len (sym size) in
    let count : length rest ≡ zeros = ap length are ∙ length-replicate zeros 0 in
    are ∙ ap (λ (k : ℕ). replicate k 0) (sym count)

-- ---- a trailer

length-trailer_bytes : (message : List ℕ) (zeros minor : ℕ) → length (trailer_bytes message zeros minor) ≡ 12 + length (padded message zeros)
length-trailer_bytes message zeros minor =
    let last = length-be_bytes 3 2 in
    let both = length-append (padded message zeros) (minor ∷ be_bytes 3 2) in
    omega arith

-- the parts of the bytes of a trailer
pub record HasParts (tail message : List ℕ) (zeros minor : ℕ) : Type 0 where
  pub front : take 8 tail ≡ magic
  pub body : take 200 (drop 8 tail) ≡ padded message zeros
  pub version : drop 200 (drop 8 tail) ≡ minor ∷ be_bytes 3 2

pub HasParts-trailer_bytes : (tail message : List ℕ) (zeros minor : ℕ) → length tail ≡ 212 → tail ≡ trailer_bytes message zeros minor → HasParts tail message zeros minor
HasParts-trailer_bytes tail message zeros minor size e =
    let long : length (padded message zeros) ≡ 200 = omega (arith, ap length e, length-trailer_bytes message zeros minor) in
    let behind = padded message zeros ++ (minor ∷ be_bytes 3 2) in
    let eight : drop 8 tail ≡ behind = ap (drop 8) e ∙ drop_at magic behind 8 refl in
    record {
      front = ap (take 8) e ∙ take_at magic behind 8 refl;
      body = ap (take 200) eight ∙ take_at (padded message zeros) (minor ∷ be_bytes 3 2) 200 long;
      version = ap (drop 200) eight ∙ drop_at (padded message zeros) (minor ∷ be_bytes 3 2) 200 long;
    }

-- the message of a trailer is short
pub message_small : (tail message : List ℕ) (zeros minor : ℕ) → length tail ≡ 212 → tail ≡ trailer_bytes message zeros minor → length message < 2 ^ 64
message_small tail message zeros minor size e =
    let all = length-append (delimited message) (replicate zeros 0) in
    let two = length-append (varint (length message)) message in
    omega (arith, ap length e, length-trailer_bytes message zeros minor)

first_of_many : (bytes : List ℕ) → 0 < length bytes → bytes ≡ get_or bytes 0 0 ∷ drop 1 bytes
first_of_many [] some = absurd (omega arith)
first_of_many (b ∷ bytes) some = refl

-- bytes that have the parts of a trailer of version 2
pub tail_from : (tail message : List ℕ) (zeros : ℕ) → length tail ≡ 212 → IsBytes tail → take 8 tail ≡ magic → take 200 (drop 8 tail) ≡ padded message zeros → be_number 3 (drop 209 tail) ≡ 2
    → tail ≡ trailer_bytes message zeros (get_or (drop 200 (drop 8 tail)) 0 0)
tail_from tail message zeros size fits front body version =
    let x = drop 8 tail in
    let y = drop 200 x in
    let z = drop 209 tail in
    let y_is : y ≡ drop 208 tail = drop-drop 200 8 tail in
    let z_is : drop 1 y ≡ z = ap (drop 1) y_is ∙ drop-drop 1 208 tail in
    let some : 0 < length y = omega (arith, ap length y_is, length-drop 208 tail) in
    let three : length z ≡ 3 = omega (arith, length-drop 209 tail) in
    let last : z ≡ be_bytes 3 2 = sym (take_all 3 z (omega arith)) ∙ sym (be_bytes-be_number 3 z (omega arith) (IsBytes-drop 209 tail fits)) ∙ ap (be_bytes 3) version in
    let minor = get_or y 0 0 in
    let y_parts : y ≡ minor ∷ be_bytes 3 2 = first_of_many y some ∙ ap (λ (t : List ℕ). minor ∷ t) (z_is ∙ last) in
    sym (take-append-drop 8 tail) ∙ ap (λ (t : List ℕ). t ++ x) front ∙ ap (λ (t : List ℕ). magic ++ t) (sym (take-append-drop 200 x) ∙ ap (λ (t : List ℕ). t ++ y) body ∙ ap (λ (t : List ℕ). padded message zeros ++ t) y_parts)

-- a message that was found in the bytes of a trailer
pub found_message : {A : Type 0} (now : A → List ℕ) (tail front body version : List ℕ) (r : Option A) → IfSome r (λ m. (zeros : ℕ) × (body ≡ padded (now m) zeros))
    → length tail ≡ 212 → IsBytes tail → front ≡ take 8 tail → front ≡ magic → body ≡ take 200 (drop 8 tail) → version ≡ drop 200 (drop 8 tail) → IsMinor (get_or version 0 0)
    → IfSome r (λ m. be_number 3 (drop 209 tail) ≡ 2 → (zeros : ℕ) × (minor : ℕ) × IsMinor minor × (tail ≡ trailer_bytes (now m) zeros minor))
found_message now tail front body version None found size fits cut is_front body_is version_is minor = tt
found_message now tail front body version (Some m) (zeros, is) size fits cut is_front body_is version_is minor = λ major.
    let y = drop 200 (drop 8 tail) in
    (zeros, get_or y 0 0, subst (λ (v : List ℕ). IsMinor (get_or v 0 0)) version_is minor, tail_from tail (now m) zeros size fits (sym cut ∙ is_front) (sym body_is ∙ is) major)

-- the major number of a file with a trailer of version 2
pub major_of-IsTrailer : (bytes message : List ℕ) (zeros minor : ℕ) → 212 ≤ length bytes → IsTrailer bytes message zeros minor → major_of bytes ≡ 2
major_of-IsTrailer bytes message zeros minor long is =
    let tail = drop (trailer_at bytes) bytes in
    let size : length tail ≡ 212 = omega (arith, length-drop (trailer_at bytes) bytes) in
    let parts = HasParts-trailer_bytes tail message zeros minor size is.whole in
    let place : trailer_at bytes + 209 ≡ length bytes - 3 = omega arith in
    let last : drop (length bytes - 3) bytes ≡ be_bytes 3 2 =
    ap (λ (k : ℕ). drop k bytes) (sym place) ∙ sym (drop-drop 209 (trailer_at bytes) bytes) ∙ sym (drop-drop 1 208 tail) ∙ ap (drop 1) (sym (drop-drop 200 8 tail)) ∙ ap (drop 1) parts.version in
    ap (be_number 3) (last ∙ sym (append-nil (be_bytes 3 2))) ∙ be_number-be_bytes 3 2 [] (omega arith)

pub major_is : (bytes version : List ℕ) (n : ℕ) → n ≡ big_number 3 version → version ≡ drop (length bytes - 3) bytes → n ≡ major_of bytes
unfolding be_number
major_is bytes version n read cut = read ∙ ap (big_number 3) cut

-- the major number stands at the end of the trailer too
pub major_in_tail : (bytes tail : List ℕ) → 212 ≤ length bytes → tail ≡ drop (trailer_at bytes) bytes → be_number 3 (drop 209 tail) ≡ major_of bytes
major_in_tail bytes tail long e =
    let place : trailer_at bytes + 209 ≡ length bytes - 3 = omega arith in
    ap (be_number 3) (ap (drop 209) e ∙ drop-drop 209 (trailer_at bytes) bytes ∙ ap (λ (k : ℕ). drop k bytes) place)
