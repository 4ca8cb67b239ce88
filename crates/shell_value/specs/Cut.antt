-- Bytes cut at the first of some mark.
use Rattle.std.specs.Prelude.{ℕ, ◌==◌, Bool, cond, List, [], ◌∷◌}
use Rattle.std.specs.List.{list_any}

-- what stands before the first mark, or all where there is none
abbrev pub before : ℕ → List ℕ → List ℕ
before mark [] = []
before mark (byte ∷ bytes) = cond (byte == mark) [] (byte ∷ before mark bytes)

-- what stands behind it, or nothing
abbrev pub behind : ℕ → List ℕ → List ℕ
behind mark [] = []
behind mark (byte ∷ bytes) = cond (byte == mark) bytes (behind mark bytes)

-- whether the mark is among the bytes
abbrev pub has_mark : ℕ → List ℕ → Bool
has_mark mark bytes = list_any (λ byte. byte == mark) bytes
