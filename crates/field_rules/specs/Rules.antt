-- The rules of a message's fields: which number a field has, what its values spell, and which of them count. A field
-- with a number that the message knows has to be in the grammar of its rule; others are passed over.
use Rattle.std.specs.Prelude.{◌≡◌, ℕ, ◌==◌, if◌then◌else◌, List, [], ◌∷◌, Option, Some, None}
use Rattle.std.specs.Ordering.{nat_cmp, on}
use Rattle.std.specs.List.Sorted.{IsStrictlySortedBy}
use Rattle.std.specs.Cmp.Lexicographic.{slice_cmp}
use Rattle.wire_fields.specs.Fields.{Part}
use Rattle.wire_fields.specs.Message.{later}

-- the values of the fields with a number, in the order of the message
abbrev pub values_of : ℕ → List (ℕ × Part) → List Part
values_of id [] = []
values_of id (p ∷ parts) = if p.0 == id then p.1 ∷ values_of id parts else values_of id parts

-- each spells its own value
abbrev pub Spell : {V : Type 0} → (Part → V → Type 0) → List Part → List V → Type 0
Spell spells [] [] = Unit {0}
Spell spells [] (v ∷ vs) = ⊥
Spell spells (x ∷ xs) [] = ⊥
Spell spells (x ∷ xs) (v ∷ vs) = spells x v × Spell spells xs vs

-- the last value of some
abbrev pub last_of : {V : Type 0} → List V → Option V
last_of [] = None
last_of (v ∷ vs) = later (Some v) (last_of vs)

-- a repeated field has these values
pub record Repeated {V : Type 0} (spells : Part → V → Type 0) (id : ℕ) (parts : List (ℕ × Part)) (vs : List V) : Type 0 where
  pub each : Spell spells (values_of id parts) vs

-- a field that is not repeated has this value: of several the last counts
pub record Last {V : Type 0} (spells : Part → V → Type 0) (id : ℕ) (parts : List (ℕ × Part)) (v : Option V) : Type 0 where
  pub all : List V
  pub each : Spell spells (values_of id parts) all
  pub counts : v ≡ last_of all

-- a repeated field has these values, whose first parts ascend strictly as bytes
pub record Rising {V : Type 0} (spells : Part → List ℕ × V → Type 0) (id : ℕ) (parts : List (ℕ × Part)) (vs : List (List ℕ × V)) : Type 0 where
  pub each : Spell spells (values_of id parts) vs
  pub rise : IsStrictlySortedBy (on (λ (v : List ℕ × V). v.0) (slice_cmp nat_cmp)) vs

-- two rules
infixr 4 ◌&◌
abbrev pub ◌&◌ : {A B : Type 0} → (List (ℕ × Part) → A → Type 0) → (List (ℕ × Part) → B → Type 0) → List (ℕ × Part) → A × B → Type 0
(f & g) parts values = f parts values.0 × g parts values.1
