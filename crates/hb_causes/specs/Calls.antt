-- The calls of a form in memory, numbered from 1.
use Rattle.std.specs.Prelude.{ℕ, Bool, ◌==◌, List}
use Rattle.std.specs.List.{list_any}
use Rattle.hb_causes.specs.Faults.{next}

-- the numbers of the calls that fail, how many were made, and how many of them failed
pub record Calls : Type 0 where
  pub fails : List ℕ
  pub made : ℕ
  pub faults : ℕ

-- before the first call
abbrev pub no_calls : List ℕ → Calls
no_calls fails = record { fails = fails; made = 0; faults = 0 }

-- whether the next call is one of those that fail
abbrev pub is_due : Calls → Bool
is_due c = list_any (λ n. n == next c.made) c.fails

-- one more call, which did not fail
abbrev pub after_success : Calls → Calls
after_success c = record { fails = c.fails; made = next c.made; faults = c.faults }

-- one more call, which failed
abbrev pub after_failure : Calls → Calls
after_failure c = record { fails = c.fails; made = next c.made; faults = next c.faults }
