-- What a clock tells.
use Rattle.std.specs.Prelude.{ℕ, List, [], ◌∷◌, ◌++◌, Option, option_map}

-- the moments that were told, if any were, and then this one
abbrev pub with_moment : ℕ → Option (List ℕ) → Option (List ℕ)
with_moment moment told = option_map (λ given. given ++ moment ∷ []) told
