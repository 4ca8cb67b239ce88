use Rattle.std.specs.Prelude.{◌≡◌, ℕ, List, [], ◌∷◌, ◌++◌, Option, Some, None}

-- a string of a grammar, and a byte that ends it
pub record Marked (inner : List ℕ → Type 0) (mark : ℕ) (bytes : List ℕ) : Type 0 where
  pub front : List ℕ
  pub whole : bytes ≡ front ++ mark ∷ []
  pub in_inner : inner front

-- what is left of a grammar and its mark, where the mark may have come
abbrev pub UntilMark : {A : Type 0} → (A → List ℕ → Type 0) → Option A → ℕ → List ℕ → Type 0
UntilMark spells None mark bytes = bytes ≡ []
UntilMark spells (Some inner) mark bytes = Marked (spells inner) mark bytes

-- no string of the grammar has the byte
abbrev pub Avoids : (List ℕ → Type 0) → ℕ → Type 0
Avoids spells mark = (front rest : List ℕ) → spells (front ++ mark ∷ rest) → ⊥
