-- Whether a trailer stands at the end of bytes can be told, and so what reading it answers.
use Rattle.std.proofs.Common.{◌≡◌, ℕ, zero, suc, ◌+◌, ◌-◌, ◌<◌, ◌≤◌, Bool, true, false, eqb, None, List, [], ◌∷◌, ◌++◌, length, get_or, take, drop, replicate, Option, Result, Ok, Err, refl, sym, ap, subst, ◌∙◌, append_assoc, ◌⊎◌, inl, inr, arith}
use Rattle.std.specs.Prelude.{◌≢◌, IfOk, IfErr}
use Rattle.std.proofs.lemmas.Bool.{eqb-true, eqb-false, cases_lt}
use Rattle.std.proofs.lemmas.List.{take_at, drop_at, length-append, length-take, length-drop, length-replicate}
use Rattle.hb_wire.specs.declared.fault.WireError.{WireError}
use Rattle.hb_wire.specs.Fixed.{be_bytes}
use Rattle.hb_wire.proofs.BigEndian.{IsBytes, IsBytes-take, IsBytes-drop}
use Rattle.wire_fields.specs.declared.field.Field.{Field as ReadField}
use Rattle.wire_fields.specs.Varint.{varint, varint_at}
use Rattle.wire_fields.specs.Fields.{Part as Field, part_of, field_at}
use Rattle.wire_fields.specs.Message.{IsMessage, later, number_here}
use Rattle.wire_fields.proofs.FieldLaws.{IsField-field_at, found_field}
use Rattle.wire_fields.proofs.Varints.{ok_is, varint_at-varint}
use Rattle.wire_fields.proofs.Messages.{IsWalk, IsWalk-none, IsWalk-push, found_walk, no_message}
use Rattle.hfile_meta.specs.declared.fault.MetaError.{MetaError}
use Rattle.hfile_meta.specs.declared.fault.MetaError.TheVariants as metas
use Rattle.hfile_meta.specs.declared.trailer.Trailer.{Trailer}
use Rattle.hfile_meta.specs.Trailer.{delimited, padded, IsMinor, trailer_bytes, trailer_at, IsTrailer, major_of, told, trailer_of, judged}
use Rattle.hfile_meta.proofs.Trailers.{HasParts-trailer_bytes, message_small}
use Rattle.hfile_form.specs.File.{version_two, TrailerTells, IsTrailerFault, as_fault}

-- ---- what can be told

abbrev pub IsTold : Type 0 → Type 0
IsTold fact = fact ⊎ (fact → ⊥)

number_told : (x y : ℕ) (b : Bool) → eqb x y ≡ b → IsTold (x ≡ y)
number_told x y true e = inl (eqb-true x y e)
number_told x y false e = inr (eqb-false x y e)

bytes_told : (xs ys : List ℕ) → IsTold (xs ≡ ys)
bytes_told [] [] = inl refl
bytes_told [] (y ∷ ys) = inr (λ e. absurd cc)
bytes_told (x ∷ xs) [] = inr (λ e. absurd cc)
bytes_told (x ∷ xs) (y ∷ ys) =
    elim (number_told x y (eqb x y) refl) [
      | inl first ↦ elim (bytes_told xs ys) [ inl others ↦ inl (λ i. first i ∷ others i) | inr differ ↦ inr (λ e. differ (ap (drop 1) e)) ]
      | inr differ ↦ inr (λ e. differ (ap (λ (zs : List ℕ). get_or zs 0 0) e))
    ]

-- ---- a message

abbrev pub IsSomeMessage : List ℕ → Type 0
IsSomeMessage bytes = (parts : List (ℕ × Field)) × IsMessage bytes parts

field_told : (more : ℕ) (bytes : List ℕ) (at : ℕ) (last : Option ℕ) → IsBytes bytes → IsWalk bytes 1 at last → length bytes ≤ at + suc more → at < length bytes
    → ((next : ℕ) (l : Option ℕ) → IsWalk bytes 1 next l → length bytes ≤ next + more → IsTold (IsSomeMessage bytes))
    → (r : Result (ReadField × ℕ) WireError) → r ≡ field_at at (drop at bytes) → IsTold (IsSomeMessage bytes)
field_told more bytes at last fits walk short inside go_on (Err e) is = inr (λ m. no_message bytes 1 at last e m.0 walk inside is m.1)
field_told more bytes at last fits walk short inside go_on (Ok x) is =
    let here = number_here 1 (x.0.number, part_of bytes x.0.value) in
    let field = IsField-field_at at (drop at bytes) x.0 x.1 (IsBytes-drop at bytes fits) (sym is) in
    let long = field.long in
    let some = field.some in
    let within : at + x.1 ≤ length bytes = omega (arith, length-drop at bytes) in
    go_on (at + x.1) (later last here) (IsWalk-push bytes 1 at x.1 last here x.0 walk within (found_field bytes at (Ok x) fits is) refl) (omega arith)

walk_told : (more : ℕ) (bytes : List ℕ) (at : ℕ) (last : Option ℕ) → IsBytes bytes → IsWalk bytes 1 at last → length bytes ≤ at + more → IsTold (IsSomeMessage bytes)
walk_told zero bytes at last fits walk short = let f = found_walk bytes 1 at last walk (omega arith) in inl (f.0, f.1)
walk_told (suc more) bytes at last fits walk short =
    elim (cases_lt at (length bytes)) [
      | inl inside ↦ field_told more bytes at last fits walk short inside (λ next l w less. walk_told more bytes next l fits w less) (field_at at (drop at bytes)) refl
      | inr past ↦ let f = found_walk bytes 1 at last walk past in inl (f.0, f.1)
    ]

message_told : (bytes : List ℕ) → IsBytes bytes → IsTold (IsSomeMessage bytes)
message_told bytes fits = walk_told (length bytes) bytes 0 None fits (IsWalk-none bytes 1) (omega arith)

-- ---- a trailer

-- a trailer with a message stands at the end
pub record Stands (bytes : List ℕ) : Type 0 where
  pub message : List ℕ
  pub parts : List (ℕ × Field)
  pub zeros : ℕ
  pub minor : ℕ
  pub trailer : IsTrailer bytes message zeros minor
  pub is : IsMessage message parts

-- the parts that a trailer can have
abbrev body_of : List ℕ → List ℕ
body_of bytes = drop 8 (drop (trailer_at bytes) bytes)

abbrev minor_of : List ℕ → ℕ
minor_of bytes = get_or (drop 200 (body_of bytes)) 0 0

abbrev message_of : List ℕ → ℕ → ℕ → List ℕ
message_of bytes len used = take len (drop used (body_of bytes))

-- a trailer that stands there has these parts
record HasOnly (bytes message : List ℕ) (zeros minor len used : ℕ) : Type 0 where
  is_message : message ≡ message_of bytes len used
  is_zeros : zeros ≡ 200 - (used + len)
  is_minor : minor ≡ minor_of bytes

tail_long : (bytes : List ℕ) → 212 ≤ length bytes → length (drop (trailer_at bytes) bytes) ≡ 212
tail_long bytes long = omega (arith, length-drop (trailer_at bytes) bytes)

spelled_front : (m : List ℕ) (count : ℕ) (rest : List ℕ) → padded m count ++ rest ≡ varint (length m) ++ (m ++ (replicate count 0 ++ rest))
spelled_front m count rest = simp append_assoc

length_read : (bytes message : List ℕ) (zeros minor : ℕ) → 212 ≤ length bytes → IsTrailer bytes message zeros minor
    → (body_of bytes ≡ varint (length message) ++ (message ++ (replicate zeros 0 ++ (minor ∷ be_bytes 3 2)))) × (varint_at (body_of bytes) ≡ Ok (length message, length (varint (length message))))
length_read bytes message zeros minor long is =
    let tail = drop (trailer_at bytes) bytes in
    let behind = message ++ (replicate zeros 0 ++ (minor ∷ be_bytes 3 2)) in
    let whole : body_of bytes ≡ varint (length message) ++ behind = ap (drop 8) is.whole ∙ spelled_front message zeros (minor ∷ be_bytes 3 2) in
    (whole, ap varint_at whole ∙ varint_at-varint (length message) behind (message_small tail message zeros minor (tail_long bytes long) is.whole))

HasOnly-IsTrailer : (bytes message : List ℕ) (zeros minor len used : ℕ) → 212 ≤ length bytes → IsTrailer bytes message zeros minor → varint_at (body_of bytes) ≡ Ok (len, used) → HasOnly bytes message zeros minor len used
HasOnly-IsTrailer bytes message zeros minor len used long is read =
    let tail = drop (trailer_at bytes) bytes in
    let v = varint (length message) in
    let behind = replicate zeros 0 ++ (minor ∷ be_bytes 3 2) in
    let front = length_read bytes message zeros minor long is in
    let same = ok_is {A = ℕ × ℕ} (length message, length v) (len, used) (sym front.1 ∙ read) in
    let lengths : length message ≡ len = ap (λ (x : ℕ × ℕ). x.0) same in
    let uses : length v ≡ used = ap (λ (x : ℕ × ℕ). x.1) same in
    let parts = HasParts-trailer_bytes tail message zeros minor (tail_long bytes long) is.whole in
    let cut : drop used (body_of bytes) ≡ message ++ behind = ap (drop used) front.0 ∙ drop_at v (message ++ behind) used uses in
    let size : length (padded message zeros) ≡ 200 = ap length (sym parts.body) ∙ omega (arith, length-take 200 (drop 8 tail), length-drop 8 tail, tail_long bytes long) in
    record {
      is_message = sym (ap (take len) cut ∙ take_at message behind len lengths);
      is_zeros = omega (arith, length-append (delimited message) (replicate zeros 0), length-append v message, length-replicate {A = ℕ} zeros 0);
      is_minor = sym (ap (λ (t : List ℕ). get_or t 0 0) parts.version);
    }

minor_told : (minor : ℕ) → IsTold (IsMinor minor)
minor_told minor =
    elim (number_told minor 2 (eqb minor 2) refl) [
      | inl two ↦ inl (inl two)
      | inr other ↦ elim (number_told minor 3 (eqb minor 3) refl) [ inl three ↦ inl (inr three) | inr none ↦ inr (λ m. elim m [ inl two ↦ other two | inr three ↦ none three ]) ]
    ]

-- a trailer that stands there, with these parts
moved : (bytes : List ℕ) (s : Stands bytes) (len used : ℕ) → HasOnly bytes s.message s.zeros s.minor len used
    → (drop (trailer_at bytes) bytes ≡ trailer_bytes (message_of bytes len used) (200 - (used + len)) (minor_of bytes)) × IsMinor (minor_of bytes) × IsMessage (message_of bytes len used) s.parts
moved bytes s len used only =
    (s.trailer.whole ∙ (λ i. trailer_bytes (only.is_message i) (only.is_zeros i) (only.is_minor i)), subst IsMinor only.is_minor s.trailer.is_minor, subst (λ (m : List ℕ). IsMessage m s.parts) only.is_message s.is)

parts_told : (bytes : List ℕ) (len used : ℕ) → 212 ≤ length bytes → IsBytes bytes → varint_at (body_of bytes) ≡ Ok (len, used) → IsTold (Stands bytes)
parts_told bytes len used long fits read =
    let m = message_of bytes len used in
    let z = 200 - (used + len) in
    let i = minor_of bytes in
    let only : (s : Stands bytes) → HasOnly bytes s.message s.zeros s.minor len used = λ s. HasOnly-IsTrailer bytes s.message s.zeros s.minor len used long s.trailer read in
    elim (bytes_told (drop (trailer_at bytes) bytes) (trailer_bytes m z i)) [
      | inr differ ↦ inr (λ s. differ (moved bytes s len used (only s)).0)
      | inl whole ↦ elim (minor_told i) [
        | inr other ↦ inr (λ s. other (moved bytes s len used (only s)).1)
        | inl is_minor ↦ elim (message_told m (IsBytes-take len (drop used (body_of bytes)) (IsBytes-drop used (body_of bytes) (IsBytes-drop 8 (drop (trailer_at bytes) bytes) (IsBytes-drop (trailer_at bytes) bytes fits))))) [
          | inr none ↦ inr (λ s. none (s.parts, (moved bytes s len used (only s)).2))
          | inl found ↦ inl (record { message = m; parts = found.0; zeros = z; minor = i; trailer = record { is_minor = is_minor; whole = whole }; is = found.1 })
        ]
      ]
    ]

length_told : (bytes : List ℕ) (r : Result (ℕ × ℕ) WireError) → 212 ≤ length bytes → IsBytes bytes → varint_at (body_of bytes) ≡ r → IsTold (Stands bytes)
length_told bytes (Ok (len, used)) long fits read = parts_told bytes len used long fits read
length_told bytes (Err e) long fits read = inr (λ s. let front = (length_read bytes s.message s.zeros s.minor long s.trailer).1 in absurd cc)

trailer_told : (bytes : List ℕ) → 212 ≤ length bytes → IsBytes bytes → IsTold (Stands bytes)
trailer_told bytes long fits = length_told bytes (varint_at (body_of bytes)) long fits refl

-- ---- what is answered

abbrev pub IsTrailerAnswer : List ℕ → Result Trailer MetaError → Type 0
IsTrailerAnswer bytes r = IfOk r (λ trailer. TrailerTells version_two bytes (Ok trailer)) × IfErr r (λ e. IsTrailerFault bytes (as_fault e))

tells_answer : (bytes : List ℕ) (r : Result Trailer MetaError) → TrailerTells version_two bytes r → IsTrailerAnswer bytes r
tells_answer bytes (Ok trailer) tells = (tells, tt)
tells_answer bytes (Err e) tells = (tt, inr (inr (inr (e, tells, refl))))

pub IsTrailerAnswer-from : (bytes : List ℕ) (r : Result Trailer MetaError) → IsBytes bytes → (length bytes < 212 → r ≡ Err (metas.BadTrailer (length bytes))) → (212 ≤ length bytes → major_of bytes ≢ 2 → r ≡ Err (metas.Version (major_of bytes)))
    → ((message : List ℕ) (parts : List (ℕ × Field)) (zeros minor : ℕ) → 212 ≤ length bytes → IsTrailer bytes message zeros minor → IsMessage message parts → r ≡ judged (trailer_at bytes) (trailer_of (told parts)))
    → (212 ≤ length bytes → major_of bytes ≡ 2 → ((message : List ℕ) (parts : List (ℕ × Field)) (zeros minor : ℕ) → IsTrailer bytes message zeros minor → IsMessage message parts → ⊥) → r ≡ Err (metas.BadTrailer (trailer_at bytes)))
    → IsTrailerAnswer bytes r
IsTrailerAnswer-from bytes r fits short version trailer none =
    elim (cases_lt (length bytes) 212) [
      | inl less ↦ subst (IsTrailerAnswer bytes) (sym (short less)) (tt, inl (less, refl))
      | inr long ↦ elim (number_told (major_of bytes) 2 (eqb (major_of bytes) 2) refl) [
        | inr other ↦ subst (IsTrailerAnswer bytes) (sym (version long other)) (tt, inr (inl (long, other, refl)))
        | inl major ↦ elim (trailer_told bytes long fits) [
          | inl s ↦ tells_answer bytes r (s.message, s.parts, s.zeros, s.minor, long, s.trailer, s.is, trailer s.message s.parts s.zeros s.minor long s.trailer s.is)
          | inr absent ↦
              let nothing : (message : List ℕ) (parts : List (ℕ × Field)) (zeros minor : ℕ) → IsTrailer bytes message zeros minor → IsMessage message parts → ⊥ =
              λ message parts zeros minor is of. absent (record { message = message; parts = parts; zeros = zeros; minor = minor; trailer = is; is = of }) in
              subst (IsTrailerAnswer bytes) (sym (none long major nothing)) (tt, inr (inr (inl ((long, major, nothing), refl))))
        ]
      ]
    ]
