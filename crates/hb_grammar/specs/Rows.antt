use Rattle.std.specs.Prelude.{◌≡◌, ℕ, List, [], ◌∷◌, ◌++◌, Option, Some, Bool, true}
use Rattle.std.specs.List.{flat_map}

-- rows of which each is right behind the one before it; the first stands behind last, where there is one
abbrev pub RowsFrom : {V : Type 0} → (Option V → V → Type 0) → Option V → List V → Type 0
RowsFrom right last [] = Unit {0}
RowsFrom right last (row ∷ rows) = right last row × RowsFrom right (Some row) rows

-- the last of some rows, or the one before them
abbrev pub last_of : {V : Type 0} → Option V → List V → Option V
last_of last [] = last
last_of last (row ∷ rows) = last_of (Some row) rows

-- the texts of such rows, one behind another, and then a string of a grammar
pub record RowsThen {V : Type 0} (right : Option V → V → Type 0) (text : V → List ℕ) (tail : List ℕ → Type 0) (last : Option V) (bytes : List ℕ) : Type 0 where
  pub rows : List V
  pub back : List ℕ
  pub each : RowsFrom right last rows
  pub in_tail : tail back
  pub whole : bytes ≡ flat_map text rows ++ back

-- the first of the bytes passes a test
abbrev pub IsBegun : (ℕ → Bool) → List ℕ → Type 0
IsBegun first [] = ⊥
IsBegun first (byte ∷ bytes) = first byte ≡ true
