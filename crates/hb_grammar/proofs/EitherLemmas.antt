use Rattle.std.proofs.Common.{ℕ, List, ◌∷◌, inl, inr}
use Rattle.hb_grammar.specs.Either.{EitherOf}
use Rattle.hb_grammar.specs.Grammar.{Follows}

-- a byte that both grammars go on with leaves what it leaves of either
pub Follows-EitherOf : (first second first' second' : List ℕ → Type 0) (byte : ℕ) → Follows first byte first' → Follows second byte second' →
    Follows (EitherOf first second) byte (EitherOf first' second')
Follows-EitherOf first second first' second' byte of_first of_second = record {
  forth = λ rest either. elim either as (λ _. EitherOf first' second' rest)
      [ inl spelled ↦ inl (of_first.forth rest spelled) | inr spelled ↦ inr (of_second.forth rest spelled) ];
  back = λ rest either. elim either as (λ _. EitherOf first second (byte ∷ rest))
      [ inl spelled ↦ inl (of_first.back rest spelled) | inr spelled ↦ inr (of_second.back rest spelled) ];
}
