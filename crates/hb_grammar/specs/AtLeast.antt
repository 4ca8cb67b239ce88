use Rattle.std.specs.Prelude.{◌≡◌, ◌≢◌, ◌⊎◌, ℕ, List, Option, Some, None}
use Rattle.std.specs.Ordering.{nat_cmp}
use Rattle.std.specs.declared.cmp.Ordering.TheVariants.{Greater}
use Rattle.std.specs.Cmp.Lexicographic.{slice_cmp}

-- the bytes are not below the bound, as texts are ordered
abbrev pub IsAtLeast : List ℕ → List ℕ → Type 0
IsAtLeast bound bytes = slice_cmp nat_cmp bound bytes ≢ Greater

-- a string of the grammar that is not below the bound, if there is one
abbrev pub NotBelow : (List ℕ → Type 0) → Option (List ℕ) → List ℕ → Type 0
NotBelow spells None bytes = spells bytes
NotBelow spells (Some bound) bytes = spells bytes × IsAtLeast bound bytes

-- the bound, if there is one, or a string of the grammar that is not below it
abbrev pub FromBound : (List ℕ → Type 0) → Option (List ℕ) → List ℕ → Type 0
FromBound spells None bytes = spells bytes
FromBound spells (Some bound) bytes = (bytes ≡ bound) ⊎ (spells bytes × IsAtLeast bound bytes)

-- it cannot be that the bound is no string of the grammar
abbrev pub IsBoundOf : (List ℕ → Type 0) → Option (List ℕ) → Type 0
IsBoundOf spells bound = (bytes : List ℕ) → bound ≡ Some bytes → (spells bytes → ⊥) → ⊥
