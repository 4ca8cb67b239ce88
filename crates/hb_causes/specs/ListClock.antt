-- A clock with a list of moments.
use Rattle.std.specs.Prelude.{ℕ, ◌-◌, min, List, [], ◌∷◌, ◌++◌, length, slice_index}

-- the moments that it was made with, and those that it has given, oldest first
pub record ListClockState : Type 0 where
  pub moments : List ℕ
  pub given : List ℕ

-- its next moment: the one at the place of this call, past the end the last one, and 0 where there is none
abbrev pub next_moment : ListClockState → ℕ
next_moment c = slice_index c.moments (min (length c.given) (length c.moments - 1))

-- after it has given a moment
abbrev pub after_moment : ℕ → ListClockState → ListClockState
after_moment moment c = record { moments = c.moments; given = c.given ++ moment ∷ [] }
