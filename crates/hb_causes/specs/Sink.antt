-- What a sink tells.
use Rattle.std.specs.Prelude.{ℕ, List, ◌++◌, Option, option_map}

-- the bytes that were told, if any were, and then these
abbrev pub with_bytes : List ℕ → Option (List ℕ) → Option (List ℕ)
with_bytes bytes told = option_map (λ written. written ++ bytes) told
