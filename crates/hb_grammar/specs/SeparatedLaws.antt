use Rattle.std.proofs.Common.{ℕ, zero, suc, List, inl}
use Rattle.hb_grammar.specs.Grammar.{IsLive}
use Rattle.hb_grammar.specs.Separated.{SeparatedFrom}

-- a row has a string where its current part has one
pub IsLive-SeparatedFrom : (current fresh : List ℕ → Type 0) (mark left : ℕ) → IsLive current → IsLive (SeparatedFrom current fresh mark left)
IsLive-SeparatedFrom current fresh mark zero live = live
IsLive-SeparatedFrom current fresh mark (suc left) live = (live.0, inl live.1)
