use Rattle.std.specs.Prelude.{ℕ, ◌≤◌, List, [], ◌∷◌, ◌++◌}
use Rattle.std.specs.Fmt.{decimal}

-- a word of a line, and the blank behind it, whose code is 32
abbrev pub field : List ℕ → List ℕ
field word = word ++ 32 ∷ []

-- the last word of a line, and the line feed behind it, whose code is 10
abbrev pub ended : List ℕ → List ℕ
ended word = word ++ 10 ∷ []

-- a number that a line may have: from low to max
abbrev pub IsNumber : ℕ → ℕ → ℕ → Type 0
IsNumber low max number = (low ≤ number) × (number ≤ max)

-- a line of a word and a number
abbrev pub number_line : List ℕ → ℕ → List ℕ
number_line word number = field word ++ ended (decimal number)
