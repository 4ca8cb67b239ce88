use Rattle.std.specs.Prelude.{ℕ, ◌<◌, ◌≤◌, List, ◌∷◌, ◌++◌, length, take}

-- some string of the grammar begins with these bytes
abbrev pub IsViable : (List ℕ → Type 0) → List ℕ → Type 0
IsViable spells bytes = (rest : List ℕ) × spells (bytes ++ rest)

-- the longest prefix of the bytes with which a string of the grammar begins has this length
pub record IsReach (spells : List ℕ → Type 0) (bytes : List ℕ) (at : ℕ) : Type 0 where
  pub within : at ≤ length bytes
  pub viable : IsViable spells (take at bytes)
  pub longest : (more : ℕ) → at < more → more ≤ length bytes → IsViable spells (take more bytes) → ⊥

-- the bytes are no string of the grammar, and their longest viable prefix has this length
pub record IsFault (spells : List ℕ → Type 0) (bytes : List ℕ) (at : ℕ) : Type 0 where
  pub not_spelled : spells bytes → ⊥
  pub reach : IsReach spells bytes at

-- the grammar new has exactly what the grammar old has behind this byte
pub record Follows (old : List ℕ → Type 0) (byte : ℕ) (new : List ℕ → Type 0) : Type 0 where
  pub forth : (rest : List ℕ) → old (byte ∷ rest) → new rest
  pub back : (rest : List ℕ) → new rest → old (byte ∷ rest)

-- no string of the grammar begins with this byte
abbrev pub Refuses : (List ℕ → Type 0) → ℕ → Type 0
Refuses spells byte = (rest : List ℕ) → spells (byte ∷ rest) → ⊥

-- the grammar has a string
abbrev pub IsLive : (List ℕ → Type 0) → Type 0
IsLive spells = (bytes : List ℕ) × spells bytes

-- the two grammars have the same strings
pub record Same (old new : List ℕ → Type 0) : Type 0 where
  pub forth : (bytes : List ℕ) → old bytes → new bytes
  pub back : (bytes : List ℕ) → new bytes → old bytes
