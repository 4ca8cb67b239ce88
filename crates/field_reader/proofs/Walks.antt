-- The walk over the fields of a message.
use Rattle.std.proofs.Common.{◌≡◌, ℕ, ◌+◌, ◌*◌, ◌-◌, ◌^◌, ◌<◌, ◌≤◌, List, [], ◌∷◌, ◌++◌, length, drop, refl, sym, ap, subst, ◌∙◌, append_assoc, arith}
use Rattle.std.proofs.lemmas.List.{append-nil, drop_all, length-append, length-drop}
use Rattle.std.proofs.lemmas.List.Concat.{flat_map-append}
use Rattle.wire_fields.specs.Varint.{varint}
use Rattle.wire_fields.specs.Fields.{Part, number, eight, four, text, kind, field_bytes, IsId, Fits}
use Rattle.wire_fields.specs.Message.{IsMessage, IsPart, AreParts, message_bytes}
use Rattle.field_reader.specs.declared.fault.RecordError.{RecordError}
use Rattle.field_reader.specs.declared.fault.RecordError.TheVariants.{BadRecord}
use Rattle.field_reader.specs.Faults.{value_len, header, IsInside, FieldsFault, cut, wrong_field}

-- the bytes up to a place are fields that spell these values
pub record IsSoFar {S : Type 0} (rules : List (ℕ × Part) → S → Type 0) (bytes : List ℕ) (at : ℕ) (values : S) : Type 0 where
  pub parts : List (ℕ × Part)
  pub fit : AreParts parts
  pub whole : bytes ≡ message_bytes parts ++ drop at bytes
  pub here : at ≡ length (message_bytes parts)
  pub within : at ≤ length bytes
  pub spelled : rules parts values

pub IsSoFar-none : {S : Type 0} (rules : List (ℕ × Part) → S → Type 0) (bytes : List ℕ) (values : S) → rules [] values → IsSoFar rules bytes 0 values
IsSoFar-none rules bytes values is = record { parts = []; fit = tt; whole = refl; here = refl; within = omega arith; spelled = is }

pub AreParts-push : (parts : List (ℕ × Part)) (p : ℕ × Part) → AreParts parts → IsPart p → AreParts (parts ++ p ∷ [])
AreParts-push [] p fit is = (is, tt)
AreParts-push (q ∷ parts) p fit is = (fit.0, AreParts-push parts p fit.1 is)

pub message_bytes-push : (parts : List (ℕ × Part)) (p : ℕ × Part) → message_bytes (parts ++ p ∷ []) ≡ message_bytes parts ++ field_bytes p.0 p.1
message_bytes-push parts p = flat_map-append (λ (q : ℕ × Part). field_bytes q.0 q.1) parts (p ∷ []) ∙ ap (λ (r : List ℕ). message_bytes parts ++ r) (append-nil (field_bytes p.0 p.1))

-- as many bytes were used as the field has
pub used_len : (bytes : List ℕ) (at used id : ℕ) (part : Part) → at + used ≤ length bytes → drop at bytes ≡ field_bytes id part ++ drop (at + used) bytes → used ≡ length (field_bytes id part)
used_len bytes at used id part within is =
    omega (arith, ap length is, length-drop at bytes, length-append (field_bytes id part) (drop (at + used) bytes), length-drop (at + used) bytes)

pub value_len-le : (id : ℕ) (part : Part) → value_len part ≤ length (field_bytes id part)
unfolding field_bytes
value_len-le id (number n) = omega arith
value_len-le id (eight n) = omega arith
value_len-le id (four n) = omega arith
value_len-le id (text bytes) =
    let tag = varint (8 * id + 2) in
    let len = varint (length bytes) in
    let whole = length-append tag (len ++ bytes) in
    let inner = length-append len bytes in
    omega arith

pub IsSoFar-then : {S : Type 0} (rules : List (ℕ × Part) → S → Type 0) (bytes : List ℕ) (at used : ℕ) (before after : S) (id : ℕ) (part : Part)
    → (so_far : IsSoFar rules bytes at before) → at + used ≤ length bytes → IsId id → Fits part → drop at bytes ≡ field_bytes id part ++ drop (at + used) bytes
    → rules (so_far.parts ++ (id, part) ∷ []) after → IsSoFar rules bytes (at + used) after
IsSoFar-then rules bytes at used before after id part so_far within is_id fits is step =
    let parts = so_far.parts in
    let push = message_bytes-push parts (id, part) in
    let rest = drop (at + used) bytes in
    let sizes = length-append (message_bytes parts) (field_bytes id part) in
    let here = so_far.here in
    let used_is = used_len bytes at used id part within is in
    record {
      parts = parts ++ (id, part) ∷ [];
      fit = AreParts-push parts (id, part) so_far.fit (is_id, fits);
      whole = so_far.whole ∙ ap (λ (r : List ℕ). message_bytes parts ++ r) is ∙ sym (append_assoc (message_bytes parts) (field_bytes id part) rest) ∙ ap (λ (m : List ℕ). m ++ rest) (sym push);
      here = omega (arith, ap length push);
      within = within;
      spelled = step;
    }

pub IsSoFar-more : {S : Type 0} (rules : List (ℕ × Part) → S → Type 0) (bytes : List ℕ) (at used : ℕ) (before after : S) (id : ℕ) (part : Part)
    → IsSoFar rules bytes at before → at + used ≤ length bytes → IsId id → Fits part → drop at bytes ≡ field_bytes id part ++ drop (at + used) bytes
    → ((parts : List (ℕ × Part)) → rules parts before → rules (parts ++ (id, part) ∷ []) after) → IsSoFar rules bytes (at + used) after
IsSoFar-more rules bytes at used before after id part so_far within is_id fits is step =
    IsSoFar-then rules bytes at used before after id part so_far within is_id fits is (step so_far.parts so_far.spelled)

pub IsMessage-so_far : {S : Type 0} (rules : List (ℕ × Part) → S → Type 0) (bytes : List ℕ) (at : ℕ) (values : S) → (so_far : IsSoFar rules bytes at values) → length bytes ≤ at → IsMessage bytes so_far.parts
IsMessage-so_far rules bytes at values so_far end =
    (so_far.fit, so_far.whole ∙ ap (λ (r : List ℕ). message_bytes so_far.parts ++ r) (drop_all at bytes end) ∙ append-nil (message_bytes so_far.parts))

-- ---- where the walk stops

pub FieldsFault-cut : {S : Type 0} (rules : List (ℕ × Part) → S → Type 0) (wrong : List (ℕ × Part) → ℕ × Part → ℕ → ℕ → RecordError → Type 0) (bytes : List ℕ) (place at : ℕ) (values : S)
    → IsSoFar rules bytes at values → at < length bytes → ((id : ℕ) (part : Part) (rest : List ℕ) → IsId id → Fits part → drop at bytes ≡ field_bytes id part ++ rest → ⊥)
    → FieldsFault rules wrong bytes place (BadRecord (place + at))
FieldsFault-cut rules wrong bytes place at values so_far more none =
    let some : drop at bytes ≡ [] → ⊥ = λ (e : drop at bytes ≡ []). omega (arith, ap length e, length-drop at bytes) in
    let place_is : length (message_bytes so_far.parts) ≡ at = sym so_far.here in
    subst (λ (k : ℕ). FieldsFault rules wrong bytes place (BadRecord (place + k))) place_is
    (cut so_far.parts values (drop at bytes) so_far.fit so_far.spelled so_far.whole some (λ p rest is e. none p.0 p.1 rest is.0 is.1 e))

pub FieldsFault-wrong : {S : Type 0} (rules : List (ℕ × Part) → S → Type 0) (wrong : List (ℕ × Part) → ℕ × Part → ℕ → ℕ → RecordError → Type 0) (bytes : List ℕ) (place at used id len : ℕ) (part : Part) (values : S) (e : RecordError)
    → IsSoFar rules bytes at values → at + used ≤ length bytes → IsId id → Fits part → drop at bytes ≡ field_bytes id part ++ drop (at + used) bytes → len ≡ value_len part
    → ((parts : List (ℕ × Part)) → rules parts values → wrong parts (id, part) (place + at) (place + at + (used - len)) e)
    → FieldsFault rules wrong bytes place e
FieldsFault-wrong rules wrong bytes place at used id len part values e so_far within is_id fits is len_is fault =
    let parts = so_far.parts in
    let used_is = used_len bytes at used id part within is in
    let here : at ≡ length (message_bytes parts) = so_far.here in
    let told = fault parts so_far.spelled in
    let same : used - len ≡ header (id, part) = rw (used_is, len_is) refl in
    let there = subst (λ (k : ℕ). wrong parts (id, part) (place + at) (place + at + k) e) same told in
    wrong_field parts values (id, part) (drop (at + used) bytes) e so_far.fit so_far.spelled (is_id, fits)
    (so_far.whole ∙ ap (λ (r : List ℕ). message_bytes parts ++ r) is)
    (subst (λ (k : ℕ). wrong parts (id, part) (place + k) (place + k + header (id, part)) e) here there)

pub IsInside-place : (bytes : List ℕ) (place at used id len : ℕ) (part : Part) → place + length bytes < 2 ^ 64 → at + used ≤ length bytes
    → drop at bytes ≡ field_bytes id part ++ drop (at + used) bytes → len ≡ value_len part → IsInside part (place + at + (used - len))
IsInside-place bytes place at used id len part room within is len_is =
    let used_is = used_len bytes at used id part within is in
    let most = value_len-le id part in
    omega arith
