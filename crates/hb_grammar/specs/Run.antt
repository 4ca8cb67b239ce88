use Rattle.std.specs.Prelude.{◌≡◌, ℕ, ◌≤◌, List, length}
use Rattle.hb_grammar.specs.declared.class.Class.{Class}
use Rattle.hb_grammar.specs.Class.{AllIn}

-- at least and at most so many bytes of a class
pub record IsRun (class : Class) (low high : ℕ) (bytes : List ℕ) : Type 0 where
  pub least : low ≤ length bytes
  pub most : length bytes ≤ high
  pub each : AllIn class bytes

-- so many bytes of a class
pub record IsExactly (class : Class) (count : ℕ) (bytes : List ℕ) : Type 0 where
  pub long : length bytes ≡ count
  pub each : AllIn class bytes
