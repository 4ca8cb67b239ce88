use Rattle.std.specs.Prelude.{◌≡◌, ◌⊎◌, ℕ, ◌≤◌, List, [], ◌∷◌, ◌++◌, Option, Some, None, max, unwrap_or}
use Rattle.std.specs.Fmt.{decimal}
use Rattle.commit_line.specs.Numbered.{IsListNumber}

-- the last component of the bytes, between / and the end, or the bytes without one; 47 is /
abbrev pub IsBehindSlash : List ℕ → List ℕ → Type 0
IsBehindSlash place component = (place ≡ component) ⊎ ((front : List ℕ) × (place ≡ front ++ 47 ∷ component))

-- no byte is /
abbrev pub HasNoSlash : List ℕ → Type 0
HasNoSlash bytes = (front rest : List ℕ) → bytes ≡ front ++ 47 ∷ rest → ⊥

-- a place whose last component is this number in decimal, 1 to 2 ^ 63 - 1
abbrev pub IsNumbered : List ℕ → ℕ → Type 0
IsNumbered place number = IsListNumber number × IsBehindSlash place (decimal number)

-- the number of one of the places
abbrev pub IsNumberAmong : List (List ℕ) → ℕ → Type 0
IsNumberAmong [] number = ⊥
IsNumberAmong (place ∷ places) number = IsNumbered place number ⊎ IsNumberAmong places number

-- the number of the place, if it has one
abbrev pub IsNumberOf : List ℕ → Option ℕ → Type 0
IsNumberOf place (Some number) = IsNumbered place number
IsNumberOf place None = (number : ℕ) → IsNumbered place number → ⊥

-- the number of one of the places, above which none has one
pub record IsGreatest (places : List (List ℕ)) (number : ℕ) : Type 0 where
  pub among : IsNumberAmong places number
  pub greatest : (other : ℕ) → IsNumberAmong places other → other ≤ number

-- the greatest number of the places, if one of them has one
abbrev pub IsNewest : List (List ℕ) → Option ℕ → Type 0
IsNewest places (Some number) = IsGreatest places number
IsNewest places None = (number : ℕ) → IsNumberAmong places number → ⊥

-- the greater of two numbers that may be there
abbrev pub newer : Option ℕ → Option ℕ → Option ℕ
newer newest None = newest
newer newest (Some number) = Some (max (unwrap_or newest 0) number)
