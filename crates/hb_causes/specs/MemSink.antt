-- A sink in memory.
use Rattle.std.specs.Prelude.{ℕ, ◌-◌, min, List, [], ◌++◌, length, Bool, ◌==◌, ◌||◌}
use Rattle.hb_causes.specs.Calls.{Calls, no_calls, is_due, after_success, after_failure}

-- the bytes written, how many it takes in all and in one call at most, and the calls
pub record MemSinkState : Type 0 where
  pub written : List ℕ
  pub room : ℕ
  pub most : ℕ
  pub calls : Calls

-- a sink that nothing was written to, with this room, this many bytes a call at most, and these failing calls
abbrev pub new_sink : ℕ → ℕ → List ℕ → MemSinkState
new_sink room most fails = record { written = []; room = room; most = most; calls = no_calls fails }

-- a write fails where its number is listed, and where the sink is full
abbrev pub is_refusing : MemSinkState → Bool
is_refusing s = is_due s.calls || (length s.written == s.room)

-- how many bytes a write of a piece of this length takes
abbrev pub write_count : MemSinkState → ℕ → ℕ
write_count s len = min s.most (min len (s.room - length s.written))

-- after a write that took these bytes
abbrev pub after_write : List ℕ → MemSinkState → MemSinkState
after_write bytes s = record { written = s.written ++ bytes; room = s.room; most = s.most; calls = after_success s.calls }

-- after a write that failed
abbrev pub after_failed_write : MemSinkState → MemSinkState
after_failed_write s = record { written = s.written; room = s.room; most = s.most; calls = after_failure s.calls }
