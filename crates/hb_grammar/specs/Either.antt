use Rattle.std.specs.Prelude.{ℕ, List, ◌⊎◌, Option, Some, None}

-- a string of one grammar or of another
abbrev pub EitherOf : (List ℕ → Type 0) → (List ℕ → Type 0) → List ℕ → Type 0
EitherOf first second bytes = first bytes ⊎ second bytes

-- a string of the grammar that is left, if one is
abbrev pub IfLeft : {A : Type 0} → (A → List ℕ → Type 0) → Option A → List ℕ → Type 0
IfLeft spells None bytes = ⊥
IfLeft spells (Some grammar) bytes = spells grammar bytes
