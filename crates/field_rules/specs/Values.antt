-- What the values of a field spell (Protocol Buffers, Encoding, Message Structure).
use Rattle.std.specs.Prelude.{◌≡◌, ℕ, List}
use Rattle.wire_fields.specs.Fields.{Part, number, eight, four, text}

-- a number of the grammar
abbrev pub Number : (ℕ → Type 0) → Part → ℕ → Type 0
Number grammar (number n) v = grammar n × (v ≡ n)
Number grammar (eight n) v = ⊥
Number grammar (four n) v = ⊥
Number grammar (text bytes) v = ⊥

-- any number
abbrev pub AnyNumber : Part → ℕ → Type 0
AnyNumber = Number (λ n. Unit {0})

-- a value that bytes spell, as those of a message do
abbrev pub Inner : {V : Type 0} → (List ℕ → V → Type 0) → Part → V → Type 0
Inner spells (number n) v = ⊥
Inner spells (eight n) v = ⊥
Inner spells (four n) v = ⊥
Inner spells (text bytes) v = spells bytes v

-- bytes of the grammar
abbrev pub Text : (List ℕ → Type 0) → Part → List ℕ → Type 0
Text grammar = Inner (λ bytes v. grammar bytes × (v ≡ bytes))

-- any bytes
abbrev pub AnyText : Part → List ℕ → Type 0
AnyText = Text (λ bytes. Unit {0})

-- nothing spells two values
abbrev pub OneValue : {A V : Type 0} → (A → V → Type 0) → Type 0
OneValue {A} {V} spells = (a : A) (v w : V) → spells a v → spells a w → v ≡ w
