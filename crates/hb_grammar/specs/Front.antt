use Rattle.std.specs.Prelude.{◌≡◌, ℕ, List, ◌++◌}
use Rattle.hb_grammar.specs.Grammar.{IsReach}

-- no other string of the grammar begins these bytes or goes on behind them
abbrev pub IsAlone : (List ℕ → Type 0) → List ℕ → Type 0
IsAlone spells piece = (front back rest : List ℕ) → spells front → front ++ back ≡ piece ++ rest → front ≡ piece

-- no string of the grammar begins the bytes, and their longest viable prefix has this length
pub record IsFrontFault (spells : List ℕ → Type 0) (bytes : List ℕ) (at : ℕ) : Type 0 where
  pub none : (front back : List ℕ) → spells front → front ++ back ≡ bytes → ⊥
  pub reach : IsReach spells bytes at
