use Rattle.std.specs.Prelude.{◌≡◌, ℕ, List, ◌++◌}

-- the bytes are the text of a valid value
abbrev pub IsTextOf : {V : Type 0} → (V → Type 0) → (V → List ℕ) → List ℕ → Type 0
IsTextOf {V} valid text bytes = (v : V) × valid v × (bytes ≡ text v)

-- a valid value is told by its text, whatever stands behind that
abbrev pub IsTold : {V : Type 0} → (V → Type 0) → (V → List ℕ) → Type 0
IsTold {V} valid text = (v w : V) (a b : List ℕ) → valid v → valid w → text v ++ a ≡ text w ++ b → v ≡ w

-- a valid pair, whose second value may depend on the first
abbrev pub IsPair : {V W : Type 0} → (V → Type 0) → (V → W → Type 0) → V × W → Type 0
IsPair valid valid' pair = valid pair.0 × valid' pair.0 pair.1

-- the text of a pair
abbrev pub pair_text : {V W : Type 0} → (V → List ℕ) → (W → List ℕ) → V × W → List ℕ
pair_text text text' pair = text pair.0 ++ text' pair.1
