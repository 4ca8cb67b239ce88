use Rattle.std.specs.Prelude.{◌≡◌, ℕ, zero, suc, ◌+◌, ◌≤◌, nat_lt, cond, true, List, [], ◌∷◌, length, Option, Some, None}
use Rattle.std.specs.Ordering.{nat_cmp, is_le}
use Rattle.std.specs.declared.cmp.Ordering.TheVariants.{Less}
use Rattle.std.specs.Cmp.Lexicographic.{slice_cmp}
use Rattle.hex.specs.Hex.{IsBytes}

-- a byte before a row, or where there is none: the next byte alone, if there is one
abbrev pub before_next : ℕ → Option (List ℕ) → Option (List ℕ)
before_next byte (Some next) = Some (byte ∷ next)
before_next byte None = cond (nat_lt byte 255) (Some ((byte + 1) ∷ [])) None

-- the least row above one among those of at most room bytes, if one is above it
unfoldable pub next_row : ℕ → List ℕ → Option (List ℕ)
next_row zero row = None
next_row (suc room) [] = Some (0 ∷ [])
next_row (suc room) (byte ∷ bytes) = before_next byte (next_row room bytes)

-- there is a next row, and the other row is not below it
abbrev pub IsFrom : Option (List ℕ) → List ℕ → Type 0
IsFrom None other = ⊥
IsFrom (Some next) other = is_le (slice_cmp nat_cmp next other) ≡ true

-- among the rows of at most room bytes, those above a row are the next one and those above that
pub record IsNext (room : ℕ) (row : List ℕ) (next : Option (List ℕ)) : Type 0 where
  pub forth : (other : List ℕ) → IsBytes other → length other ≤ room → slice_cmp nat_cmp row other ≡ Less → IsFrom next other
  pub back : (other : List ℕ) → IsFrom next other → slice_cmp nat_cmp row other ≡ Less
  pub limit : (found : List ℕ) → next ≡ Some found → length found ≤ room
  pub small : (found : List ℕ) → next ≡ Some found → IsBytes row → IsBytes found
