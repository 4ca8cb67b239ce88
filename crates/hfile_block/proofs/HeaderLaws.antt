-- What is read as a header is spelled so, and what is spelled so is read.
use Rattle.std.proofs.Common.{◌≡◌, ℕ, ◌+◌, ◌-◌, ◌^◌, ◌<◌, ◌≤◌, ℤ, Bool, true, false, cond, ltb, leb, ◌&&◌, List, [], ◌∷◌, ◌++◌, length, get_or, take, drop, Option, Some, None, Result, Ok, Err, refl, sym, ap, subst, ◌∙◌, append_assoc, arith}
use Rattle.std.specs.Prelude.{FitsSigned, nat_eq, not, IfOk}
use Rattle.std.specs.Int.{w64, cast_signed, cast_unsigned}
use Rattle.std.specs.Cmp.Lexicographic.{pointwise}
use Rattle.std.proofs.lemmas.Int.{of_z-to_z, to_z-of_z}
use Rattle.std.proofs.Math.Facts.{Fits-of_z, sfits_to_z}
use Rattle.std.proofs.lemmas.Bool.{le-ltb, ltb-false, le-leb, leb-true, eqb-true, and_parts}
use Rattle.std.proofs.lemmas.List.{take_at, drop_at, drop_more, get_or-drop, length-append, length-drop, drop-drop, take-append-drop}
use Rattle.hb_wire.specs.Fixed.{be_bytes, be_number}
use Rattle.hb_wire.proofs.BigEndian.{IsBytes, IsBytes-drop, length-be_bytes, be_number-be_bytes, be_bytes-be_number, be_number-lt}
use Rattle.hfile_block.specs.declared.fault.HFileError.{HFileError}
use Rattle.hfile_block.specs.declared.fault.HFileError.TheVariants as errors
use Rattle.hfile_block.specs.declared.header.Header.{Header}
use Rattle.hfile_block.specs.declared.magic.Magic.{Magic}
use Rattle.hfile_block.specs.declared.magic.Magic.TheVariants as kinds
use Rattle.hfile_block.specs.Header.{magic_bytes, magic_of, header_bytes, sizes_agree, fields_of, judged, header_of, header_at, IsHeader, BeginsWith}

-- ---- the kinds

pub length-magic_bytes : (m : Magic) → length (magic_bytes m) ≡ 8
unfolding magic_bytes
length-magic_bytes kinds.Data = refl
length-magic_bytes kinds.Leaf = refl
length-magic_bytes kinds.Intermediate = refl
length-magic_bytes kinds.Root = refl
length-magic_bytes kinds.Meta = refl
length-magic_bytes kinds.Info = refl
length-magic_bytes kinds.BloomPart = refl
length-magic_bytes kinds.BloomMeta = refl
length-magic_bytes kinds.DeleteBloomMeta = refl
length-magic_bytes kinds.Trailer = refl

pub magic_of-magic_bytes : (m : Magic) → magic_of (magic_bytes m) ≡ Some m
unfolding magic_bytes magic_of
magic_of-magic_bytes kinds.Data = refl
magic_of-magic_bytes kinds.Leaf = refl
magic_of-magic_bytes kinds.Intermediate = refl
magic_of-magic_bytes kinds.Root = refl
magic_of-magic_bytes kinds.Meta = refl
magic_of-magic_bytes kinds.Info = refl
magic_of-magic_bytes kinds.BloomPart = refl
magic_of-magic_bytes kinds.BloomMeta = refl
magic_of-magic_bytes kinds.DeleteBloomMeta = refl
magic_of-magic_bytes kinds.Trailer = refl

same_bytes : (xs ys : List ℕ) → pointwise nat_eq xs ys ≡ true → xs ≡ ys
same_bytes [] [] e = refl
same_bytes [] (y ∷ ys) e = absurd cc
same_bytes (x ∷ xs) [] e = absurd cc
same_bytes (x ∷ xs) (y ∷ ys) e =
    let both = and_parts (nat_eq x y) (pointwise nat_eq xs ys) e in
    let first : x ≡ y = eqb-true x y both.0 in
    let others : xs ≡ ys = same_bytes xs ys both.1 in
    λ i. first i ∷ others i

kind_test : (front : List ℕ) (j m : Magic) (b : Bool) (others : Option Magic) → pointwise nat_eq front (magic_bytes j) ≡ b → (others ≡ Some m → front ≡ magic_bytes m) → cond b (Some j) others ≡ Some m → front ≡ magic_bytes m
kind_test front j m true others test more e = let is : j ≡ m = cc in same_bytes front (magic_bytes j) test ∙ ap magic_bytes is
kind_test front j m false others test more e = more e

pub magic_bytes-magic_of : (front : List ℕ) (m : Magic) → magic_of front ≡ Some m → front ≡ magic_bytes m
unfolding magic_of
magic_bytes-magic_of front m e =
    kind_test front kinds.Data m _ _ refl
    (kind_test front kinds.Leaf m _ _ refl
    (kind_test front kinds.Intermediate m _ _ refl
    (kind_test front kinds.Root m _ _ refl
    (kind_test front kinds.Meta m _ _ refl
    (kind_test front kinds.Info m _ _ refl
    (kind_test front kinds.BloomPart m _ _ refl
    (kind_test front kinds.BloomMeta m _ _ refl
    (kind_test front kinds.DeleteBloomMeta m _ _ refl
    (kind_test front kinds.Trailer m _ None refl (λ none. absurd cc)))))))))) e

-- ---- the numbers

-- a number at a place, and what stands behind it
number_piece : (width at : ℕ) (bytes : List ℕ) → at + width ≤ length bytes → IsBytes bytes → drop at bytes ≡ be_bytes width (be_number width (drop at bytes)) ++ drop (at + width) bytes
number_piece width at bytes inside fits =
    let behind = drop at bytes in
    let long : width ≤ length behind = omega (arith, length-drop at bytes) in
    sym (take-append-drop width behind) ∙ ap (λ (t : List ℕ). t ++ drop width behind) (sym (be_bytes-be_number width behind long (IsBytes-drop at bytes fits)))
    ∙ ap (λ (t : List ℕ). be_bytes width (be_number width behind) ++ t) (drop-drop width at bytes)

byte_piece : (at : ℕ) (bytes : List ℕ) → at < length bytes → drop at bytes ≡ get_or bytes at 0 ∷ drop (at + 1) bytes
byte_piece at bytes inside = drop_more bytes at 0 inside

-- the fields behind a magic
fields_bytes : Header → List ℕ → List ℕ
fields_bytes h rest = be_bytes 4 h.on_disk ++ (be_bytes 4 h.uncompressed ++ (be_bytes 8 (cast_unsigned w64 h.previous) ++ (h.checksum ∷ (be_bytes 4 h.per ++ (be_bytes 4 h.data_size ++ rest)))))

header_bytes-append : (h : Header) (rest : List ℕ) → header_bytes h ++ rest ≡ magic_bytes h.magic ++ fields_bytes h rest
unfolding header_bytes fields_bytes
header_bytes-append h rest = simp append_assoc

pub length-header_bytes : (h : Header) → length (header_bytes h) ≡ 33
unfolding header_bytes
length-header_bytes h =
    let m = length-magic_bytes h.magic in
    let a = length-be_bytes 4 h.on_disk in
    let b = length-be_bytes 4 h.uncompressed in
    let p = length-be_bytes 8 (cast_unsigned w64 h.previous) in
    let d = length-be_bytes 4 h.per in
    let e = length-be_bytes 4 h.data_size in
    simp length-append (omega arith)

-- the fields that are read at the front of bytes of a kind
fields_piece : (m : Magic) (bytes : List ℕ) → 33 ≤ length bytes → IsBytes bytes → drop 8 bytes ≡ fields_bytes (fields_of m bytes) (drop 33 bytes)
unfolding fields_bytes
fields_piece m bytes long fits =
    let n = be_number 8 (drop 16 bytes) in
    let small : n < 2 ^ 64 = be_number-lt 8 (drop 16 bytes) (IsBytes-drop 16 bytes fits) in
    let signed : cast_unsigned w64 (cast_signed w64 n) ≡ n = of_z-to_z w64 n small in
    let p29 : drop 29 bytes ≡ be_bytes 4 (be_number 4 (drop 29 bytes)) ++ drop 33 bytes = number_piece 4 29 bytes (omega arith) fits in
    let p25 : drop 25 bytes ≡ be_bytes 4 (be_number 4 (drop 25 bytes)) ++ drop 29 bytes = number_piece 4 25 bytes (omega arith) fits in
    let p24 : drop 24 bytes ≡ get_or bytes 24 0 ∷ drop 25 bytes = byte_piece 24 bytes (omega arith) in
    let p16 : drop 16 bytes ≡ be_bytes 8 n ++ drop 24 bytes = number_piece 8 16 bytes (omega arith) fits in
    let p12 : drop 12 bytes ≡ be_bytes 4 (be_number 4 (drop 12 bytes)) ++ drop 16 bytes = number_piece 4 12 bytes (omega arith) fits in
    let p8 : drop 8 bytes ≡ be_bytes 4 (be_number 4 (drop 8 bytes)) ++ drop 12 bytes = number_piece 4 8 bytes (omega arith) fits in
    let e25 = p25 ∙ ap (λ (t : List ℕ). be_bytes 4 (be_number 4 (drop 25 bytes)) ++ t) p29 in
    let e24 = p24 ∙ ap (λ (t : List ℕ). get_or bytes 24 0 ∷ t) e25 in
    let e16 = p16 ∙ ap (λ (t : List ℕ). be_bytes 8 n ++ t) e24 ∙ ap (λ (k : ℕ). be_bytes 8 k ++ (get_or bytes 24 0 ∷ (be_bytes 4 (be_number 4 (drop 25 bytes)) ++ (be_bytes 4 (be_number 4 (drop 29 bytes)) ++ drop 33 bytes)))) (sym signed) in
    let e12 = p12 ∙ ap (λ (t : List ℕ). be_bytes 4 (be_number 4 (drop 12 bytes)) ++ t) e16 in
    p8 ∙ ap (λ (t : List ℕ). be_bytes 4 (be_number 4 (drop 8 bytes)) ++ t) e12

-- the fields of spelled bytes
fields_of-bytes : (h : Header) (bytes rest : List ℕ) → IsHeader h → bytes ≡ header_bytes h ++ rest → fields_of h.magic bytes ≡ h
unfolding fields_bytes
fields_of-bytes h bytes rest is e =
    let whole = e ∙ header_bytes-append h rest in
    let t29 = be_bytes 4 h.data_size ++ rest in
    let t25 = be_bytes 4 h.per ++ t29 in
    let t16b = h.checksum ∷ t25 in
    let t16 = be_bytes 8 (cast_unsigned w64 h.previous) ++ t16b in
    let t12 = be_bytes 4 h.uncompressed ++ t16 in
    let t8 = be_bytes 4 h.on_disk ++ t12 in
    let d8 : drop 8 bytes ≡ t8 = ap (drop 8) whole ∙ drop_at (magic_bytes h.magic) t8 8 (length-magic_bytes h.magic) in
    let d12 : drop 12 bytes ≡ t12 = sym (drop-drop 4 8 bytes) ∙ ap (drop 4) d8 ∙ drop_at (be_bytes 4 h.on_disk) t12 4 (length-be_bytes 4 h.on_disk) in
    let d16 : drop 16 bytes ≡ t16 = sym (drop-drop 4 12 bytes) ∙ ap (drop 4) d12 ∙ drop_at (be_bytes 4 h.uncompressed) t16 4 (length-be_bytes 4 h.uncompressed) in
    let d24 : drop 24 bytes ≡ t16b = sym (drop-drop 8 16 bytes) ∙ ap (drop 8) d16 ∙ drop_at (be_bytes 8 (cast_unsigned w64 h.previous)) t16b 8 (length-be_bytes 8 (cast_unsigned w64 h.previous)) in
    let d25 : drop 25 bytes ≡ t25 = sym (drop-drop 1 24 bytes) ∙ ap (drop 1) d24 in
    let d29 : drop 29 bytes ≡ t29 = sym (drop-drop 4 25 bytes) ∙ ap (drop 4) d25 ∙ drop_at (be_bytes 4 h.per) t29 4 (length-be_bytes 4 h.per) in
    let fits = is.previous in
    let wide = Fits-of_z {w = w64} {z = h.previous} fits in
    let low : cast_unsigned w64 h.previous < 2 ^ 64 = wide.fits in
    let n8 : be_number 4 (drop 8 bytes) ≡ h.on_disk = ap (be_number 4) d8 ∙ be_number-be_bytes 4 h.on_disk t12 is.on_disk in
    let n12 : be_number 4 (drop 12 bytes) ≡ h.uncompressed = ap (be_number 4) d12 ∙ be_number-be_bytes 4 h.uncompressed t16 is.uncompressed in
    let n16 : cast_signed w64 (be_number 8 (drop 16 bytes)) ≡ h.previous = ap (λ (b : List ℕ). cast_signed w64 (be_number 8 b)) d16 ∙ ap (cast_signed w64) (be_number-be_bytes 8 (cast_unsigned w64 h.previous) t16b low) ∙ to_z-of_z w64 h.previous fits in
    let n24 : get_or bytes 24 0 ≡ h.checksum = sym (get_or-drop 24 bytes 0 0) ∙ ap (λ (b : List ℕ). get_or b 0 0) d24 in
    let n25 : be_number 4 (drop 25 bytes) ≡ h.per = ap (be_number 4) d25 ∙ be_number-be_bytes 4 h.per t29 is.per in
    let n29 : be_number 4 (drop 29 bytes) ≡ h.data_size = ap (be_number 4) d29 ∙ be_number-be_bytes 4 h.data_size rest is.data_size in
    λ i. record { magic = h.magic; on_disk = n8 i; uncompressed = n12 i; previous = n16 i; checksum = n24 i; per = n25 i; data_size = n29 i }

-- ---- the header

err_ok : {A : Type 0} (b : Bool) (e : HFileError) (r : Result A HFileError) (x : A) → cond b (Err e) r ≡ Ok x → (b ≡ false) × (r ≡ Ok x)
err_ok true e r x h = absurd cc
err_ok false e r x h = (refl, h)

ok_err : {A : Type 0} (b : Bool) (e : HFileError) (r : Result A HFileError) (x : A) → cond b r (Err e) ≡ Ok x → (b ≡ true) × (r ≡ Ok x)
ok_err true e r x h = (refl, h)
ok_err false e r x h = absurd cc

some_kind : (at : ℕ) (bytes : List ℕ) (o : Option Magic) (h : Header) → header_of at bytes o ≡ Ok h
    → (m : Magic) × (o ≡ Some m) × (33 ≤ length bytes) × (judged at (length bytes) (fields_of m bytes) ≡ Ok h)
some_kind at bytes None h e = absurd cc
some_kind at bytes (Some m) h e =
    let a = err_ok (ltb (length bytes) 33) (errors.Size at) (judged at (length bytes) (fields_of m bytes)) h e in
    (m, refl, ltb-false (length bytes) 33 a.0, a.1)

is_judged : (at len : ℕ) (f h : Header) → judged at len f ≡ Ok h → (f ≡ h) × (f.checksum ≤ 2) × (sizes_agree f ≡ true) × (33 + f.on_disk ≤ len)
is_judged at len f h e =
    let a = err_ok (ltb 2 f.checksum) (errors.Checksum f.checksum) _ h e in
    let b = ok_err (sizes_agree f && leb (33 + f.on_disk) len) (errors.Size at) (Ok f) h a.1 in
    let both = and_parts (sizes_agree f) (leb (33 + f.on_disk) len) b.0 in
    let same : f ≡ h = cc in
    (same, ltb-false 2 f.checksum a.0, both.0, leb-true (33 + f.on_disk) len both.1)

-- what is read as a header is spelled so
pub BeginsWith-header_at : (at : ℕ) (bytes : List ℕ) (h : Header) → IsBytes bytes → header_at at bytes ≡ Ok h → BeginsWith bytes h
unfolding header_at fields_bytes
BeginsWith-header_at at bytes h fits e =
    let a = err_ok (ltb (length bytes) 8) (errors.Magic at) (header_of at bytes (magic_of (take 8 bytes))) h e in
    let k = some_kind at bytes (magic_of (take 8 bytes)) h a.1 in
    let f = fields_of k.0 bytes in
    let j = is_judged at (length bytes) f h k.3 in
    let long = k.2 in
    let front : take 8 bytes ≡ magic_bytes k.0 = magic_bytes-magic_of (take 8 bytes) k.0 k.1 in
    let whole : bytes ≡ header_bytes f ++ drop 33 bytes =
    sym (take-append-drop 8 bytes) ∙ ap (λ (t : List ℕ). t ++ drop 8 bytes) front ∙ ap (λ (t : List ℕ). magic_bytes k.0 ++ t) (fields_piece k.0 bytes long fits) ∙ sym (header_bytes-append f (drop 33 bytes)) in
    let wide : be_number 8 (drop 16 bytes) < 2 ^ 64 = be_number-lt 8 (drop 16 bytes) (IsBytes-drop 16 bytes fits) in
    let n8 : be_number 4 (drop 8 bytes) < 2 ^ 32 = be_number-lt 4 (drop 8 bytes) (IsBytes-drop 8 bytes fits) in
    let n12 : be_number 4 (drop 12 bytes) < 2 ^ 32 = be_number-lt 4 (drop 12 bytes) (IsBytes-drop 12 bytes fits) in
    let n25 : be_number 4 (drop 25 bytes) < 2 ^ 32 = be_number-lt 4 (drop 25 bytes) (IsBytes-drop 25 bytes fits) in
    let n29 : be_number 4 (drop 29 bytes) < 2 ^ 32 = be_number-lt 4 (drop 29 bytes) (IsBytes-drop 29 bytes fits) in
    let made : BeginsWith bytes f = record {
      is = record { on_disk = n8; uncompressed = n12; previous = sfits_to_z {w = w64} {n = be_number 8 (drop 16 bytes)} (record { fits = wide }); checksum = j.1; per = n25; data_size = n29; agree = j.2 };
      whole = whole;
      room = let r = j.3 in omega (arith, length-drop 33 bytes);
    } in
    subst (BeginsWith bytes) j.0 made

-- what is spelled so is read
pub header_at-header_bytes : (at : ℕ) (bytes rest : List ℕ) (h : Header) → IsHeader h → h.on_disk ≤ length rest → bytes ≡ header_bytes h ++ rest → header_at at bytes ≡ Ok h
unfolding header_at fields_bytes
header_at-header_bytes at bytes rest h is room e =
    let whole = e ∙ header_bytes-append h rest in
    let size : length bytes ≡ 33 + length rest = ap length e ∙ length-append (header_bytes h) rest ∙ ap (λ (n : ℕ). n + length rest) (length-header_bytes h) in
    let front : take 8 bytes ≡ magic_bytes h.magic = ap (take 8) whole ∙ take_at (magic_bytes h.magic) (fields_bytes h rest) 8 (length-magic_bytes h.magic) in
    let kind : magic_of (take 8 bytes) ≡ Some h.magic = ap magic_of front ∙ magic_of-magic_bytes h.magic in
    let fields : fields_of h.magic bytes ≡ h = fields_of-bytes h bytes rest is e in
    let low = is.checksum in
    rw (le-ltb (length bytes) 8 (omega arith), kind) (rw (le-ltb (length bytes) 33 (omega arith)) (
    ap (judged at (length bytes)) fields ∙ rw (le-ltb 2 h.checksum low, is.agree, le-leb (33 + h.on_disk) (length bytes) (omega arith)) refl))

pub found_header : (at : ℕ) (bytes : List ℕ) (r : Result Header HFileError) → IsBytes bytes → r ≡ header_at at bytes → IfOk r (λ h. BeginsWith bytes h)
found_header at bytes (Ok h) fits e = BeginsWith-header_at at bytes h fits (sym e)
found_header at bytes (Err f) fits e = tt

-- the kind at the front of a header
pub magic_of-header_bytes : (h : Header) (rest : List ℕ) → magic_of (take 8 (header_bytes h ++ rest)) ≡ Some h.magic
magic_of-header_bytes h rest =
    ap (λ (t : List ℕ). magic_of (take 8 t)) (header_bytes-append h rest) ∙ ap magic_of (take_at (magic_bytes h.magic) (fields_bytes h rest) 8 (length-magic_bytes h.magic)) ∙ magic_of-magic_bytes h.magic
