-- A source in memory.
use Rattle.std.specs.Prelude.{ℕ, min, List, length, drop}
use Rattle.hb_causes.specs.Calls.{Calls, no_calls, after_success, after_failure}

-- the bytes that are left, how many move in one call at most, and the calls
pub record MemSourceState : Type 0 where
  pub left : List ℕ
  pub most : ℕ
  pub calls : Calls

-- a source of these bytes, with this many of them a call at most, and these failing calls
abbrev pub new_source : List ℕ → ℕ → List ℕ → MemSourceState
new_source bytes most fails = record { left = bytes; most = most; calls = no_calls fails }

-- how many bytes a read into a buffer with this room moves
abbrev pub read_count : MemSourceState → ℕ → ℕ
read_count s room = min s.most (min (length s.left) room)

-- after a read of n bytes
abbrev pub after_read : ℕ → MemSourceState → MemSourceState
after_read n s = record { left = drop n s.left; most = s.most; calls = after_success s.calls }

-- after a read that failed
abbrev pub after_failed_read : MemSourceState → MemSourceState
after_failed_read s = record { left = s.left; most = s.most; calls = after_failure s.calls }
