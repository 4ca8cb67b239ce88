use Rattle.std.specs.Prelude.{◌≡◌, ℕ, List, ◌++◌, Option, Some, None}

-- a string of one grammar, and behind it a string of another
pub record Joined (first second : List ℕ → Type 0) (bytes : List ℕ) : Type 0 where
  pub front : List ℕ
  pub back : List ℕ
  pub whole : bytes ≡ front ++ back
  pub in_first : first front
  pub in_second : second back

-- what is left of two grammars, of which the first may be done
abbrev pub LeftOf : {A : Type 0} → (A → List ℕ → Type 0) → Option A → (List ℕ → Type 0) → List ℕ → Type 0
LeftOf spells None second = second
LeftOf spells (Some first) second = Joined (spells first) second
