-- Two fronts of the same bytes that are fields: one of them goes on with the other's next field.
use Rattle.std.proofs.Common.{◌≡◌, ℕ, List, [], ◌∷◌, ◌++◌, Result, Ok, Err, refl, sym, ap, subst, ◌∙◌, append_assoc}
use Rattle.std.proofs.lemmas.List.{append_cancel_left}
use Rattle.hb_wire.specs.declared.fault.WireError.{WireError}
use Rattle.wire_fields.specs.declared.field.Field.{Field}
use Rattle.wire_fields.specs.Fields.{Part, field_bytes, field_at, Finds}
use Rattle.wire_fields.specs.Message.{message_bytes, IsPart, AreParts}
use Rattle.wire_fields.proofs.FieldLaws.{Finds-field_bytes}

one_found : (whole : List ℕ) (r : Result (Field × ℕ) WireError) (p q : ℕ × Part) → Finds whole r p.0 p.1 → Finds whole r q.0 q.1 → p ≡ q
one_found whole (Ok x) p q a b =
    let numbers : p.0 ≡ q.0 = sym a.0 ∙ b.0 in
    let parts : p.1 ≡ q.1 = sym a.1 ∙ b.1 in
    λ i. (numbers i, parts i)
one_found whole (Err e) p q a b = absurd a

-- bytes that begin with a field begin with no other
pub one_field : (p q : ℕ × Part) (a b : List ℕ) → IsPart p → IsPart q → field_bytes p.0 p.1 ++ a ≡ field_bytes q.0 q.1 ++ b → p ≡ q
one_field p q a b is_p is_q e =
    let whole = field_bytes p.0 p.1 ++ a in
    let r = field_at 0 whole in
    one_found whole r p q (Finds-field_bytes whole 0 p.0 p.1 a r refl is_p.0 is_p.1 refl) (Finds-field_bytes whole 0 q.0 q.1 b r refl is_q.0 is_q.1 e)

pub one_rest : (p q : ℕ × Part) (a b : List ℕ) → p ≡ q → field_bytes p.0 p.1 ++ a ≡ field_bytes q.0 q.1 ++ b → a ≡ b
one_rest p q a b same e =
    append_cancel_left (field_bytes q.0 q.1) a b (sym (ap (λ (x : ℕ × Part). field_bytes x.0 x.1 ++ a) same) ∙ e)

-- how two fronts with their rests stand to each other
pub data Fronts (xs ys : List (ℕ × Part)) (a b : List ℕ) : Type 0 where
  same : xs ≡ ys → a ≡ b → Fronts xs ys a b
  left : (q : ℕ × Part) (others : List (ℕ × Part)) (rest : List ℕ) → IsPart q → xs ≡ ys ++ q ∷ others → b ≡ field_bytes q.0 q.1 ++ rest → Fronts xs ys a b
  right : (p : ℕ × Part) (others : List (ℕ × Part)) (rest : List ℕ) → IsPart p → ys ≡ xs ++ p ∷ others → a ≡ field_bytes p.0 p.1 ++ rest → Fronts xs ys a b

push : (x y : ℕ × Part) (xs ys : List (ℕ × Part)) (a b : List ℕ) → x ≡ y → Fronts xs ys a b → Fronts (x ∷ xs) (y ∷ ys) a b
push x y xs ys a b first (same fields rests) = same (λ i. first i ∷ fields i) rests
push x y xs ys a b first (left q others rest is fields rests) = left q others rest is (λ i. first i ∷ fields i) rests
push x y xs ys a b first (right p others rest is fields rests) = right p others rest is (λ i. sym first i ∷ fields i) rests

pub fronts : (xs ys : List (ℕ × Part)) (a b : List ℕ) → AreParts xs → AreParts ys → message_bytes xs ++ a ≡ message_bytes ys ++ b → Fronts xs ys a b
fronts [] [] a b fit_x fit_y e = same refl e
fronts [] (y ∷ ys) a b fit_x fit_y e =
    right y ys (message_bytes ys ++ b) fit_y.0 refl (e ∙ append_assoc (field_bytes y.0 y.1) (message_bytes ys) b)
fronts (x ∷ xs) [] a b fit_x fit_y e =
    left x xs (message_bytes xs ++ a) fit_x.0 refl (sym e ∙ append_assoc (field_bytes x.0 x.1) (message_bytes xs) a)
fronts (x ∷ xs) (y ∷ ys) a b fit_x fit_y e =
    let whole = sym (append_assoc (field_bytes x.0 x.1) (message_bytes xs) a) ∙ e ∙ append_assoc (field_bytes y.0 y.1) (message_bytes ys) b in
    let first = one_field x y (message_bytes xs ++ a) (message_bytes ys ++ b) fit_x.0 fit_y.0 whole in
    push x y xs ys a b first (fronts xs ys a b fit_x.1 fit_y.1 (one_rest x y (message_bytes xs ++ a) (message_bytes ys ++ b) first whole))
