use Rattle.std.proofs.Common.{ℕ, List, inl, Option, Some, None, refl}
use Rattle.hb_grammar.specs.Grammar.{IsLive}
use Rattle.hb_grammar.specs.AtLeast.{FromBound}

-- from a bound on there is the bound, and without one a string of the grammar
pub IsLive-FromBound : (spells : List ℕ → Type 0) (bound : Option (List ℕ)) → IsLive spells → IsLive (FromBound spells bound)
IsLive-FromBound spells None live = live
IsLive-FromBound spells (Some bound) live = (bound, inl refl)
