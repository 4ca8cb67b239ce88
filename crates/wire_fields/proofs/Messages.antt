-- Messages as lists of fields: reading them one by one, and that no two lists of fields have the same bytes.
use Rattle.std.proofs.Common.{◌≡◌, ℕ, ◌+◌, ◌*◌, ◌<◌, ◌≤◌, Bool, true, false, cond, eqb, List, [], ◌∷◌, ◌++◌, length, get_or, take, drop, Option, Some, None, option_map, Result, Ok, Err, refl, sym, ap, subst, ◌∙◌, append_assoc, inl, inr, arith}
use Rattle.std.specs.Prelude.{IfOk}
use Rattle.std.specs.declared.alloc.AllocError.{AllocError}
use Rattle.wire_fields.specs.declared.message.SplitFields.{SplitFields}
use Rattle.std.proofs.lemmas.Bool.{eq-eqb, ne_eqb}
use Rattle.std.proofs.lemmas.List.{take_more, append-nil, drop_at, drop_all, length-append, length-drop, map-append}
use Rattle.std.proofs.lemmas.List.Concat.{flat_map-append}
use Rattle.std.proofs.lemmas.List.Elements.{filter_map-append}
use Rattle.hb_wire.specs.declared.fault.WireError.{WireError}
use Rattle.hb_wire.specs.declared.fault.WireError.TheVariants.{Short}
use Rattle.wire_fields.specs.declared.field.Field.{Field}
use Rattle.wire_fields.specs.declared.field.FieldValue.{FieldValue}
use Rattle.wire_fields.specs.declared.message.PlacedField.{PlacedField}
use Rattle.wire_fields.specs.Varint.{varint, varint_at}
use Rattle.wire_fields.specs.Fields.{Part, kind, field_bytes, Fits, IsId, field_at, part_of}
use Rattle.wire_fields.specs.Message.{message_bytes, IsPart, AreParts, IsMessage, parts_of, AreAt, IsSplit, later, last_value, last_part, last_number, number_here, text_here, texts}
use Rattle.std.specs.Option.{option_to_list}
use Rattle.wire_fields.proofs.Varints.{ok, ok_is}
use Rattle.wire_fields.proofs.FieldLaws.{placed, field_at-field_bytes, part_of-placed}

-- ---- one list of fields for some bytes

field_at-nil : (place : ℕ) → field_at place [] ≡ Err (Short 1)
unfolding field_at varint_at
field_at-nil place = refl

field_some : (p : ℕ × Part) (rest : List ℕ) → IsPart p → [] ≡ field_bytes p.0 p.1 ++ rest → ⊥
field_some p rest is e =
    let read = field_at-field_bytes 0 p.0 p.1 rest is.0 is.1 in
    let none = field_at-nil 0 in
    let same = ap (field_at 0) e in
    absurd cc

-- a front that is a field is no other field
same_front : (p q : ℕ × Part) (a b : List ℕ) → IsPart p → IsPart q → field_bytes p.0 p.1 ++ a ≡ field_bytes q.0 q.1 ++ b → (p ≡ q) × (a ≡ b)
unfolding field_bytes
same_front p q a b is_p is_q e =
    let tag_p = varint (8 * p.0 + kind p.1) in
    let tag_q = varint (8 * q.0 + kind q.1) in
    let x : Field × ℕ = (record { number = p.0; value = placed (0 + length tag_p) p.1 }, length (field_bytes p.0 p.1)) in
    let y : Field × ℕ = (record { number = q.0; value = placed (0 + length tag_q) q.1 }, length (field_bytes q.0 q.1)) in
    let read : ok x ≡ ok y = sym (field_at-field_bytes 0 p.0 p.1 a is_p.0 is_p.1) ∙ ap (field_at 0) e ∙ field_at-field_bytes 0 q.0 q.1 b is_q.0 is_q.1 in
    let same = ok_is x y read in
    let numbers : p.0 ≡ q.0 = ap (λ (z : Field × ℕ). z.0.number) same in
    let values : placed (0 + length tag_p) p.1 ≡ placed (0 + length tag_q) q.1 = ap (λ (z : Field × ℕ). z.0.value) same in
    let sizes : length (field_bytes q.0 q.1) ≡ length (field_bytes p.0 p.1) = sym (ap (λ (z : Field × ℕ). z.1) same) in
    let whole = field_bytes p.0 p.1 ++ a in
    let mine = part_of-placed whole 0 tag_p p.1 a refl in
    let theirs = part_of-placed whole 0 tag_q q.1 b e in
    let parts : p.1 ≡ q.1 = sym mine ∙ ap (part_of whole) values ∙ theirs in
    (λ i. (numbers i, parts i), sym (drop_at (field_bytes p.0 p.1) a (length (field_bytes p.0 p.1)) refl) ∙ ap (drop (length (field_bytes p.0 p.1))) e ∙ drop_at (field_bytes q.0 q.1) b (length (field_bytes p.0 p.1)) sizes)

-- the fields that go on from some
pub record GoesOn (xs ys : List (ℕ × Part)) (rest : List ℕ) : Type 0 where
  pub others : List (ℕ × Part)
  pub fit : AreParts others
  pub joined : ys ≡ xs ++ others
  pub behind : rest ≡ message_bytes others

pub GoesOn-message_bytes : (xs ys : List (ℕ × Part)) (rest : List ℕ) → AreParts xs → AreParts ys → message_bytes xs ++ rest ≡ message_bytes ys → GoesOn xs ys rest
GoesOn-message_bytes [] ys rest fit_x fit_y e = record { others = ys; fit = fit_y; joined = refl; behind = e }
GoesOn-message_bytes (x ∷ xs) [] rest fit_x fit_y e =
    absurd (field_some x (message_bytes xs ++ rest) fit_x.0 (sym e ∙ append_assoc (field_bytes x.0 x.1) (message_bytes xs) rest))
GoesOn-message_bytes (x ∷ xs) (y ∷ ys) rest fit_x fit_y e =
    let front = same_front x y (message_bytes xs ++ rest) (message_bytes ys) fit_x.0 fit_y.0 (sym (append_assoc (field_bytes x.0 x.1) (message_bytes xs) rest) ∙ e) in
    let on = GoesOn-message_bytes xs ys rest fit_x.1 fit_y.1 front.1 in
    let first = front.0 in
    let tail = on.joined in
    record { others = on.others; fit = on.fit; joined = λ i. sym first i ∷ tail i; behind = on.behind }

none_at : (others : List (ℕ × Part)) (rest : List ℕ) (end : ℕ) (e : WireError) → AreParts others → rest ≡ message_bytes others → field_at end rest ≡ Err e → rest ≡ []
none_at [] rest end e fit is fault = is
none_at (p ∷ others) rest end e fit is fault =
    let read = field_at-field_bytes end p.0 p.1 (message_bytes others) fit.0.0 fit.0.1 in
    let same = ap (field_at end) is in
    absurd cc

pub no_bytes : (parts : List (ℕ × Part)) → AreParts parts → [] ≡ message_bytes parts → parts ≡ []
no_bytes [] fit e = refl
no_bytes (p ∷ parts) fit e = absurd (field_some p (message_bytes parts) fit.0 e)

-- the fields of a split are those of the message, to its end
pub split_whole : (bytes : List ℕ) (fields : List PlacedField) (end : ℕ) (parts : List (ℕ × Part)) → IsSplit bytes fields end → IsMessage bytes parts → (parts_of bytes fields ≡ parts) × (end ≡ length bytes)
split_whole bytes fields end parts split message =
    let mine = parts_of bytes fields in
    let rest = drop end bytes in
    let on = GoesOn-message_bytes mine parts rest split.fit message.0 (sym split.whole ∙ message.1) in
    let within = split.within in
    let nothing : rest ≡ [] = elim split.stops [
      | inl over ↦ drop_all end bytes (omega arith)
      | inr fault ↦ none_at on.others rest end fault.0 on.fit on.behind fault.1
    ] in
    let none : on.others ≡ [] = no_bytes on.others on.fit (sym nothing ∙ on.behind) in
    let all : end ≡ length bytes = omega (arith, ap length nothing, length-drop end bytes) in
    (sym (on.joined ∙ ap (λ (zs : List (ℕ × Part)). mine ++ zs) none ∙ append-nil mine), all)

-- ---- reading one by one

-- the bytes up to a place are these fields
pub record IsUpTo (bytes : List ℕ) (fields : List PlacedField) (at : ℕ) : Type 0 where
  pub fit : AreParts (parts_of bytes fields)
  pub whole : bytes ≡ message_bytes (parts_of bytes fields) ++ drop at bytes
  pub here : at ≡ length (message_bytes (parts_of bytes fields))
  pub within : at ≤ length bytes
  pub places : AreAt bytes 0 fields

pub IsUpTo-none : (bytes : List ℕ) → IsUpTo bytes [] 0
IsUpTo-none bytes = record { fit = tt; whole = refl; here = refl; within = omega arith; places = tt }

AreParts-push : (parts : List (ℕ × Part)) (p : ℕ × Part) → AreParts parts → IsPart p → AreParts (parts ++ p ∷ [])
AreParts-push [] p fit is = (is, tt)
AreParts-push (q ∷ parts) p fit is = (fit.0, AreParts-push parts p fit.1 is)

AreAt-push : (bytes : List ℕ) (place : ℕ) (fields : List PlacedField) (f : PlacedField) → AreAt bytes place fields → f.at ≡ place + length (message_bytes (parts_of bytes fields)) → AreAt bytes place (fields ++ f ∷ [])
AreAt-push bytes place [] f are e = (e ∙ omega arith, tt)
AreAt-push bytes place (g ∷ fields) f are e =
    let size = length-append (field_bytes g.number (part_of bytes g.value)) (message_bytes (parts_of bytes fields)) in
    (are.0, AreAt-push bytes (place + length (field_bytes g.number (part_of bytes g.value))) fields f are.1 (e ∙ omega arith))

pub IsUpTo-push : (bytes : List ℕ) (fields : List PlacedField) (at used id : ℕ) (value : FieldValue) → IsUpTo bytes fields at → at + used ≤ length bytes
    → IsId id × Fits (part_of bytes value) × (drop at bytes ≡ field_bytes id (part_of bytes value) ++ drop (at + used) bytes)
    → IsUpTo bytes (fields ++ record { at = at; number = id; value = value } ∷ []) (at + used)
IsUpTo-push bytes fields at used id value so_far inside read =
    let f : PlacedField = record { at = at; number = id; value = value } in
    let p : ℕ × Part = (id, part_of bytes value) in
    let before = parts_of bytes fields in
    let behind = drop (at + used) bytes in
    let spelled = field_bytes id (part_of bytes value) in
    let split : parts_of bytes (fields ++ f ∷ []) ≡ before ++ p ∷ [] = map-append (λ (g : PlacedField). (g.number, part_of bytes g.value)) fields (f ∷ []) in
    let one : message_bytes (before ++ p ∷ []) ≡ message_bytes before ++ spelled = flat_map-append (λ (q : ℕ × Part). field_bytes q.0 q.1) before (p ∷ []) ∙ ap (λ (t : List ℕ). message_bytes before ++ t) (append-nil spelled) in
    let both : message_bytes (parts_of bytes (fields ++ f ∷ [])) ≡ message_bytes before ++ spelled = ap message_bytes split ∙ one in
    let size : length (drop at bytes) ≡ length (spelled ++ behind) = ap length read.2 in
    let used_is : used ≡ length spelled = omega (arith, length-append spelled behind, length-drop at bytes, length-drop (at + used) bytes) in
    let h = so_far.here in
    record {
      fit = subst AreParts (sym split) (AreParts-push before p so_far.fit (read.0, read.1));
      whole = so_far.whole ∙ ap (λ (t : List ℕ). message_bytes before ++ t) read.2 ∙ sym (append_assoc (message_bytes before) spelled behind) ∙ ap (λ (t : List ℕ). t ++ behind) (sym both);
      here = omega (arith, ap length both, length-append (message_bytes before) spelled);
      within = inside;
      places = AreAt-push bytes 0 fields f so_far.places (h ∙ omega arith);
    }

pub IsSplit-all : (bytes : List ℕ) (fields : List PlacedField) (at : ℕ) → IsUpTo bytes fields at → length bytes ≤ at → IsSplit bytes fields at
IsSplit-all bytes fields at so_far end =
    let within = so_far.within in
    record { fit = so_far.fit; whole = so_far.whole; here = so_far.here; within = so_far.within; places = so_far.places; stops = inl (omega arith) }

pub IsSplit-fault : (bytes : List ℕ) (fields : List PlacedField) (at : ℕ) (e : WireError) → IsUpTo bytes fields at → Err e ≡ field_at at (drop at bytes) → IsSplit bytes fields at
IsSplit-fault bytes fields at e so_far fault =
    record { fit = so_far.fit; whole = so_far.whole; here = so_far.here; within = so_far.within; places = so_far.places; stops = inr (e, sym fault) }

-- ---- the last value

later-none' : {A : Type 0} (x : Option A) → later x None ≡ later None x
later-none' None = refl
later-none' (Some y) = refl

later-later : {A : Type 0} (x y z : Option A) → later (later x y) z ≡ later x (later y z)
later-later x y None = refl
later-later x y (Some w) = refl

abbrev one_value : ℕ → PlacedField → Option FieldValue
one_value id f = cond (eqb f.number id) (Some f.value) None

pub last_value-push : (id : ℕ) (fields : List PlacedField) (f : PlacedField) → last_value id (fields ++ f ∷ []) ≡ later (last_value id fields) (one_value id f)
last_value-push id [] f = later-none' (one_value id f)
last_value-push id (g ∷ fields) f = ap (later (one_value id g)) (last_value-push id fields f) ∙ sym (later-later (one_value id g) (last_value id fields) (one_value id f))

map-later : (h : FieldValue → Part) (x y : Option FieldValue) → option_map h (later x y) ≡ later (option_map h x) (option_map h y)
map-later h x None = refl
map-later h x (Some v) = refl

map-cond : (h : FieldValue → Part) (b : Bool) (v : FieldValue) → option_map h (cond b (Some v) None) ≡ cond b (Some (h v)) None
map-cond h true v = refl
map-cond h false v = refl

pub last_part-last_value : (bytes : List ℕ) (id : ℕ) (fields : List PlacedField) → option_map (part_of bytes) (last_value id fields) ≡ last_part id (parts_of bytes fields)
last_part-last_value bytes id [] = refl
last_part-last_value bytes id (f ∷ fields) =
    map-later (part_of bytes) (one_value id f) (last_value id fields) ∙ ap (λ o. later o (option_map (part_of bytes) (last_value id fields))) (map-cond (part_of bytes) (eqb f.number id) f.value)
    ∙ ap (later (cond (eqb f.number id) (Some (part_of bytes f.value)) None)) (last_part-last_value bytes id fields)

pub only_split : (bytes : List ℕ) (r : Result SplitFields AllocError) → IfOk r (λ found. IsSplit bytes found.fields found.end)
    → IfOk r (λ found. (parts : List (ℕ × Part)) → IsMessage bytes parts → (parts_of bytes found.fields ≡ parts) × (found.end ≡ length bytes))
only_split bytes (Err e) split = tt
only_split bytes (Ok found) split = λ parts message. split_whole bytes found.fields found.end parts split message

last_step : (id : ℕ) (fields : List PlacedField) (i : ℕ) (d : PlacedField) (before : Option FieldValue) → i < length fields → before ≡ last_value id (take i fields)
    → later before (one_value id (get_or fields i d)) ≡ last_value id (take (i + 1) fields)
last_step id fields i d before inside so_far =
    ap (λ o. later o (one_value id (get_or fields i d))) so_far ∙ sym (last_value-push id (take i fields) (get_or fields i d)) ∙ ap (last_value id) (sym (take_more fields i d inside))

-- a field with the number is the last one so far
pub last_then : (id : ℕ) (fields : List PlacedField) (i : ℕ) (d : PlacedField) (before : Option FieldValue) → i < length fields → before ≡ last_value id (take i fields)
    → (get_or fields i d).number ≡ id → Some (get_or fields i d).value ≡ last_value id (take (i + 1) fields)
last_then id fields i d before inside so_far same =
    let test : one_value id (get_or fields i d) ≡ Some (get_or fields i d).value = rw (eq-eqb (get_or fields i d).number id same) refl in
    sym (ap (later before) test) ∙ last_step id fields i d before inside so_far

-- another leaves it
pub last_else : (id : ℕ) (fields : List PlacedField) (i : ℕ) (d : PlacedField) (before : Option FieldValue) → i < length fields → before ≡ last_value id (take i fields)
    → ((get_or fields i d).number ≡ id → ⊥) → before ≡ last_value id (take (i + 1) fields)
last_else id fields i d before inside so_far other =
    let test : one_value id (get_or fields i d) ≡ None = rw (ne_eqb (get_or fields i d).number id other) refl in
    sym (ap (later before) test) ∙ last_step id fields i d before inside so_far

-- ---- the last number, with no list of the fields

-- the bytes up to a place are some fields, and this is the last number of one
pub record IsWalk (bytes : List ℕ) (id at : ℕ) (last : Option ℕ) : Type 0 where
  pub fields : List PlacedField
  pub so_far : IsUpTo bytes fields at
  pub is : last ≡ last_number id (parts_of bytes fields)

pub IsWalk-none : (bytes : List ℕ) (id : ℕ) → IsWalk bytes id 0 None
IsWalk-none bytes id = record { fields = []; so_far = IsUpTo-none bytes; is = refl }

later-number : (x y z : Option ℕ) → later (later x y) z ≡ later x (later y z)
later-number x y None = refl
later-number x y (Some w) = refl

last_number-push : (id : ℕ) (parts : List (ℕ × Part)) (p : ℕ × Part) → last_number id (parts ++ p ∷ []) ≡ later (last_number id parts) (number_here id p)
last_number-push id [] p = later-none' (number_here id p)
last_number-push id (q ∷ parts) p = ap (later (number_here id q)) (last_number-push id parts p) ∙ sym (later-number (number_here id q) (last_number id parts) (number_here id p))

pub IsWalk-push : (bytes : List ℕ) (id at used : ℕ) (last here : Option ℕ) (f : Field) → IsWalk bytes id at last → at + used ≤ length bytes
    → IsId f.number × Fits (part_of bytes f.value) × (drop at bytes ≡ field_bytes f.number (part_of bytes f.value) ++ drop (at + used) bytes)
    → here ≡ number_here id (f.number, part_of bytes f.value) → IsWalk bytes id (at + used) (later last here)
IsWalk-push bytes id at used last here f walk inside read is_here =
    let g : PlacedField = record { at = at; number = f.number; value = f.value } in
    let p : ℕ × Part = (f.number, part_of bytes f.value) in
    let split : parts_of bytes (walk.fields ++ g ∷ []) ≡ parts_of bytes walk.fields ++ p ∷ [] = map-append (λ (h : PlacedField). (h.number, part_of bytes h.value)) walk.fields (g ∷ []) in
    record {
      fields = walk.fields ++ g ∷ [];
      so_far = IsUpTo-push bytes walk.fields at used f.number f.value walk.so_far inside read;
      is = ap (λ o. later o here) walk.is ∙ ap (later (last_number id (parts_of bytes walk.fields))) is_here ∙ sym (last_number-push id (parts_of bytes walk.fields) p) ∙ ap (last_number id) (sym split);
    }

-- at the end the bytes are these fields
pub found_walk : (bytes : List ℕ) (id at : ℕ) (last : Option ℕ) → IsWalk bytes id at last → length bytes ≤ at → (parts : List (ℕ × Part)) × IsMessage bytes parts × (last ≡ last_number id parts)
found_walk bytes id at last walk end =
    let u = walk.so_far in
    let all = u.whole ∙ ap (λ (t : List ℕ). message_bytes (parts_of bytes walk.fields) ++ t) (drop_all at bytes end) ∙ append-nil (message_bytes (parts_of bytes walk.fields)) in
    (parts_of bytes walk.fields, (u.fit, all), walk.is)

pub only_walk : (bytes : List ℕ) (id at : ℕ) (last : Option ℕ) (parts : List (ℕ × Part)) → IsWalk bytes id at last → length bytes ≤ at → IsMessage bytes parts → last ≡ last_number id parts
only_walk bytes id at last parts walk end message =
    let same = split_whole bytes walk.fields at parts (IsSplit-all bytes walk.fields at walk.so_far end) message in
    walk.is ∙ ap (last_number id) same.0

pub no_message : (bytes : List ℕ) (id at : ℕ) (last : Option ℕ) (e : WireError) (parts : List (ℕ × Part)) → IsWalk bytes id at last → at < length bytes → Err e ≡ field_at at (drop at bytes) → IsMessage bytes parts → ⊥
no_message bytes id at last e parts walk more fault message =
    let same = split_whole bytes walk.fields at parts (IsSplit-fault bytes walk.fields at e walk.so_far fault) message in
    let end = same.1 in
    omega arith

-- ---- the texts of a field

texts-one : (id : ℕ) (p : ℕ × Part) (o : Option (List ℕ)) → text_here id p ≡ o → texts id (p ∷ []) ≡ option_to_list o
texts-one id p None e = rw e refl
texts-one id p (Some t) e = rw e refl

texts-push : (id : ℕ) (parts : List (ℕ × Part)) (p : ℕ × Part) → texts id (parts ++ p ∷ []) ≡ texts id parts ++ option_to_list (text_here id p)
texts-push id parts p = filter_map-append (text_here id) parts (p ∷ []) ∙ ap (λ (ts : List (List ℕ)). texts id parts ++ ts) (texts-one id p (text_here id p) refl)

pub texts-more : (id : ℕ) (bytes : List ℕ) (fields : List PlacedField) (i : ℕ) (d : PlacedField) (before after : List (List ℕ)) (here : Option (List ℕ))
    → i < length fields → before ≡ texts id (parts_of bytes (take i fields)) → here ≡ text_here id ((get_or fields i d).number, part_of bytes (get_or fields i d).value)
    → after ≡ before ++ option_to_list here → after ≡ texts id (parts_of bytes (take (i + 1) fields))
texts-more id bytes fields i d before after here inside so_far is next =
    let f = get_or fields i d in
    let p : ℕ × Part = (f.number, part_of bytes f.value) in
    let split : parts_of bytes (take (i + 1) fields) ≡ parts_of bytes (take i fields) ++ p ∷ [] =
    ap (parts_of bytes) (take_more fields i d inside) ∙ map-append (λ (g : PlacedField). (g.number, part_of bytes g.value)) (take i fields) (f ∷ []) in
    next ∙ ap (λ (ts : List (List ℕ)). ts ++ option_to_list here) so_far ∙ ap (λ o. texts id (parts_of bytes (take i fields)) ++ option_to_list o) is
    ∙ sym (texts-push id (parts_of bytes (take i fields)) p) ∙ ap (texts id) (sym split)

-- bytes are a message of one list of fields
pub one_message : (bytes : List ℕ) (ps qs : List (ℕ × Part)) → IsMessage bytes ps → IsMessage bytes qs → ps ≡ qs
one_message bytes ps qs is_p is_q =
    let on = GoesOn-message_bytes ps qs [] is_p.0 is_q.0 (append-nil (message_bytes ps) ∙ sym is_p.1 ∙ is_q.1) in
    let none : on.others ≡ [] = no_bytes on.others on.fit on.behind in
    sym (on.joined ∙ ap (λ (zs : List (ℕ × Part)). ps ++ zs) none ∙ append-nil ps)
