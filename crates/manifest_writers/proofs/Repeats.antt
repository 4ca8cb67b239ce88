-- Repeated fields, and messages that are short enough.
use Rattle.std.proofs.Common.{◌≡◌, ℕ, ◌+◌, ◌*◌, ◌/◌, ◌%◌, ◌^◌, ◌<◌, ◌≤◌, Bool, true, false, cond, List, [], ◌∷◌, ◌++◌, length, map, take, get_or, Option, Some, None, refl, sym, ap, subst, ◌∙◌, arith}
use Rattle.std.specs.Prelude.{◌==◌}
use Rattle.std.specs.List.{AllByRecursion, flat_map}
use Rattle.std.proofs.lemmas.List.{length-append, append_assoc, take_more}
use Rattle.wire_fields.specs.Varint.{varint}
use Rattle.wire_fields.specs.Fields.{Part, number, eight, four, text, field_bytes, value_bytes, kind, Fits, IsId}
use Rattle.wire_fields.specs.Message.{message_bytes, AreParts, IsPart}
use Rattle.field_rules.specs.Values.{Inner}
use Rattle.field_rules.specs.Rules.{values_of, Spell, Repeated, Last}
use Rattle.manifest_writers.specs.Written.{repeated}

-- ---- which fields are short enough

-- a field with a number that fits, or with bytes
abbrev pub HasNumber : Part → Type 0
HasNumber (number n) = n < 2 ^ 64
HasNumber (eight n) = n < 2 ^ 64
HasNumber (four n) = n < 2 ^ 32
HasNumber (text bytes) = Unit {0}

abbrev pub IsField : ℕ × Part → Type 0
IsField p = IsId p.0 × HasNumber p.1

text_below : (id : ℕ) (bytes : List ℕ) → length bytes ≤ length (field_bytes id (text bytes))
unfolding field_bytes
text_below id bytes =
    let whole = length-append (varint (8 * id + 2)) (varint (length bytes) ++ bytes) in
    let inner = length-append (varint (length bytes)) bytes in
    omega arith

fits_of : (id : ℕ) (part : Part) → HasNumber part → length (field_bytes id part) < 2 ^ 64 → Fits part
fits_of id (number n) has short = has
fits_of id (eight n) has short = has
fits_of id (four n) has short = has
fits_of id (text bytes) has short = let below = text_below id bytes in omega arith

-- the fields of a short message are short
pub parts_fit : (parts : List (ℕ × Part)) → AllByRecursion IsField parts → length (message_bytes parts) < 2 ^ 64 → AreParts parts
parts_fit [] all short = tt
parts_fit (p ∷ parts) all short =
    let whole = length-append (field_bytes p.0 p.1) (message_bytes parts) in
    ((all.0.0, fits_of p.0 p.1 all.0.1 (omega arith)), parts_fit parts all.1 (omega arith))

pub All-append : {A : Type 0} (P : A → Type 0) (xs ys : List A) → AllByRecursion P xs → AllByRecursion P ys → AllByRecursion P (xs ++ ys)
All-append P [] ys all more = more
All-append P (x ∷ xs) ys all more = (all.0, All-append P xs ys all.1 more)

pub All-first : {A : Type 0} (P : A → Type 0) (xs ys : List A) → AllByRecursion P (xs ++ ys) → AllByRecursion P xs
All-first P [] ys all = tt
All-first P (x ∷ xs) ys all = (all.0, All-first P xs ys all.1)

pub All-take_more : {A : Type 0} (P : A → Type 0) (xs : List A) (i : ℕ) (x : A) → i < length xs → x ≡ get_or xs i x → AllByRecursion P (take i xs) → P x
    → AllByRecursion P (take (i + 1) xs)
All-take_more {A} P xs i x below here all is =
    let more = take_more xs i x below ∙ ap (λ (y : A). take i xs ++ y ∷ []) (sym here) in
    subst (AllByRecursion P) (sym more) (All-append P (take i xs) (x ∷ []) all (is, tt))

-- ---- repeated fields

module _ {V : Type 0} (bytes : V → List ℕ) where
  pub fields_repeated : (id : ℕ) (vs : List V) → IsId id → AllByRecursion IsField (repeated id bytes vs)
  fields_repeated id [] is = tt
  fields_repeated id (v ∷ vs) is = ((is, tt), fields_repeated id vs is)

  pub bytes_repeated : (id : ℕ) (vs : List V) → message_bytes (repeated id bytes vs) ≡ flat_map (λ v. field_bytes id (text (bytes v))) vs
  bytes_repeated id [] = refl
  bytes_repeated id (v ∷ vs) = ap (λ (rest : List ℕ). field_bytes id (text (bytes v)) ++ rest) (bytes_repeated id vs)

  pub bytes_repeated_then : (id : ℕ) (vs : List V) (rest : List (ℕ × Part))
      → message_bytes (repeated id bytes vs ++ rest) ≡ flat_map (λ v. field_bytes id (text (bytes v))) vs ++ message_bytes rest
  bytes_repeated_then id [] rest = refl
  bytes_repeated_then id (v ∷ vs) rest =
      ap (λ (behind : List ℕ). field_bytes id (text (bytes v)) ++ behind) (bytes_repeated_then id vs rest)
      ∙ sym (append_assoc (field_bytes id (text (bytes v))) (flat_map (λ v. field_bytes id (text (bytes v))) vs) (message_bytes rest))

  -- of values that are parts of others
  pub bytes_repeated_of : {W : Type 0} (part : W → V) (id : ℕ) (ws : List W)
      → message_bytes (repeated id bytes (map part ws)) ≡ flat_map (λ w. field_bytes id (text (bytes (part w)))) ws
  bytes_repeated_of part id [] = refl
  bytes_repeated_of part id (w ∷ ws) = ap (λ (behind : List ℕ). field_bytes id (text (bytes (part w))) ++ behind) (bytes_repeated_of part id ws)

  pub values_repeated : (id : ℕ) (vs : List V) → (id == id) ≡ true → values_of id (repeated id bytes vs) ≡ map (λ v. text (bytes v)) vs
  values_repeated id [] same = refl
  values_repeated id (v ∷ vs) same =
      ap (λ (b : Bool). cond b (text (bytes v) ∷ values_of id (repeated id bytes vs)) (values_of id (repeated id bytes vs))) same
      ∙ ap (λ (rest : List Part). text (bytes v) ∷ rest) (values_repeated id vs same)

  pub values_other : (id other : ℕ) (vs : List V) → (id == other) ≡ false → values_of other (repeated id bytes vs) ≡ []
  values_other id other [] apart = refl
  values_other id other (v ∷ vs) apart =
      ap (λ (b : Bool). cond b (text (bytes v) ∷ values_of other (repeated id bytes vs)) (values_of other (repeated id bytes vs))) apart
      ∙ values_other id other vs apart

  -- each field of a short message spells its value
  pub Spell-repeated : (spells : List ℕ → V → Type 0) (P : V → Type 0) → ((v : V) → P v → length (bytes v) < 2 ^ 64 → spells (bytes v) v)
      → (id : ℕ) (vs : List V) → AllByRecursion P vs → AreParts (repeated id bytes vs) → Spell (Inner spells) (map (λ v. text (bytes v)) vs) vs
  Spell-repeated spells P each id [] all fit = tt
  Spell-repeated spells P each id (v ∷ vs) all fit = (each v all.0 fit.0.1, Spell-repeated spells P each id vs all.1 fit.1)

-- ---- rules that are met

-- the only field with its number
pub Last-one : {V : Type 0} (spells : Part → V → Type 0) (id : ℕ) (parts : List (ℕ × Part)) (x : Part) (v : V) → values_of id parts ≡ x ∷ [] → spells x v → Last spells id parts (Some v)
Last-one spells id parts x v only is =
    record { all = v ∷ []; each = subst (λ xs. Spell spells xs (v ∷ [])) (sym only) (is, tt); counts = refl }

-- no field with its number
pub Last-none : {V : Type 0} (spells : Part → V → Type 0) (id : ℕ) (parts : List (ℕ × Part)) → values_of id parts ≡ [] → Last spells id parts None
Last-none spells id parts none = record { all = []; each = subst (λ xs. Spell spells xs []) (sym none) tt; counts = refl }

pub Repeated-all : {V : Type 0} (spells : Part → V → Type 0) (id : ℕ) (parts : List (ℕ × Part)) (xs : List Part) (vs : List V) → values_of id parts ≡ xs → Spell spells xs vs → Repeated spells id parts vs
Repeated-all spells id parts xs vs all each = record { each = subst (λ ys. Spell spells ys vs) (sym all) each }
