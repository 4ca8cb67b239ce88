-- What a read moves.
use Rattle.std.specs.Prelude.{ℕ, ◌≡◌, ◌≤◌, List, ◌++◌, length, take, drop}

-- the first n of the bytes stand at the front of the buffer, and the rest of it is as before
pub record Moves (n : ℕ) (bytes old new : List ℕ) : Type 0 where
  pub enough : n ≤ length bytes
  pub front : new ≡ take n bytes ++ drop n old
