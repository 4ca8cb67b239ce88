-- A clock that ticks, or asks another clock.
use Rattle.std.specs.Prelude.{ℕ, ◌*◌, min, List, [], ◌∷◌, ◌++◌, Option, Some, None}
use Rattle.hb_causes.specs.Faults.{last_count}

-- the clock to ask, the length of a tick if there is one, and the moments that it gave by ticks
pub record TickerState (C : Type 0) : Type 0 where
  pub inner : C
  pub tick : Option ℕ
  pub given : List ℕ

-- the moment of the call with this number, counted from 1, up to the last value of its type
abbrev pub tick_at : ℕ → ℕ → ℕ
tick_at tick number = min (number * tick) last_count

-- the moments that it tells: its own with a tick, and else those of the clock that it asks
abbrev pub told_moments : Option ℕ → List ℕ → Option (List ℕ) → Option (List ℕ)
told_moments (Some tick) given inner = Some given
told_moments None given inner = inner

-- after it has given a moment by a tick
abbrev pub after_tick : {C : Type 0} → ℕ → TickerState C → TickerState C
after_tick moment t = record { inner = t.inner; tick = t.tick; given = t.given ++ moment ∷ [] }

-- after it has asked the other clock, which is now as given
abbrev pub after_asking : {C : Type 0} → C → TickerState C → TickerState C
after_asking inner t = record { inner = inner; tick = t.tick; given = t.given }
