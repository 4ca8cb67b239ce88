use Rattle.std.proofs.Common.{ℕ, zero, suc, List, ◌∷◌, ◌++◌, take, inl, inr}
use Rattle.hb_grammar.specs.Grammar.{IsFault, Same}
use Rattle.hb_grammar.specs.Joined.{Joined}
use Rattle.hb_grammar.specs.Marked.{Marked, Avoids}
use Rattle.hb_grammar.specs.Either.{EitherOf}
use Rattle.hb_grammar.specs.Separated.{SeparatedFrom}

-- a grammar has its own strings
pub Same_refl : (a : List ℕ → Type 0) → Same a a
Same_refl a = record { forth = λ _ spelled. spelled; back = λ _ spelled. spelled }

-- what has the strings of what has the strings of a third has those
pub Same_trans : (a b c : List ℕ → Type 0) → Same a b → Same b c → Same a c
Same_trans a b c s t =
    record { forth = λ bytes spelled. t.forth bytes (s.forth bytes spelled); back = λ bytes spelled. s.back bytes (t.back bytes spelled) }

-- a fault of a grammar is one of each grammar that has the same strings
pub IsFault-Same : (a b : List ℕ → Type 0) → Same a b → (bytes : List ℕ) (at : ℕ) → IsFault a bytes at → IsFault b bytes at
IsFault-Same a b same bytes at fault = record {
  not_spelled = λ spelled. fault.not_spelled (same.back bytes spelled);
  reach = record {
    within = fault.reach.within;
    viable = (fault.reach.viable.0, same.forth (take at bytes ++ fault.reach.viable.0) fault.reach.viable.1);
    longest = λ more above within viable. fault.reach.longest more above within (viable.0, same.back (take more bytes ++ viable.0) viable.1);
  };
}

-- a grammar avoids a mark where one with the same strings does
pub Avoids-Same : (a b : List ℕ → Type 0) (mark : ℕ) → Same a b → Avoids b mark → Avoids a mark
Avoids-Same a b mark same avoids = λ front rest spelled. avoids front rest (same.forth (front ++ mark ∷ rest) spelled)

-- two grammars behind one another, each with the same strings as another
pub Same-Joined : (a b a' b' : List ℕ → Type 0) → Same a a' → Same b b' → Same (Joined a b) (Joined a' b')
Same-Joined a b a' b' s t = record {
  forth = λ _ j. record { front = j.front; back = j.back; whole = j.whole; in_first = s.forth j.front j.in_first; in_second = t.forth j.back j.in_second };
  back = λ _ j. record { front = j.front; back = j.back; whole = j.whole; in_first = s.back j.front j.in_first; in_second = t.back j.back j.in_second };
}

-- a mark behind grammars with the same strings
pub Same-Marked : (a a' : List ℕ → Type 0) (mark : ℕ) → Same a a' → Same (Marked a mark) (Marked a' mark)
Same-Marked a a' mark s = record {
  forth = λ _ m. record { front = m.front; whole = m.whole; in_inner = s.forth m.front m.in_inner };
  back = λ _ m. record { front = m.front; whole = m.whole; in_inner = s.back m.front m.in_inner };
}

-- one of two grammars, each with the same strings as another
pub Same-EitherOf : (a b a' b' : List ℕ → Type 0) → Same a a' → Same b b' → Same (EitherOf a b) (EitherOf a' b')
Same-EitherOf a b a' b' s t = record {
  forth = λ bytes either. elim either as (λ _. EitherOf a' b' bytes) [ inl x ↦ inl (s.forth bytes x) | inr y ↦ inr (t.forth bytes y) ];
  back = λ bytes either. elim either as (λ _. EitherOf a b bytes) [ inl x ↦ inl (s.back bytes x) | inr y ↦ inr (t.back bytes y) ];
}

-- rows of grammars with the same strings
pub Same-SeparatedFrom : (a f a' f' : List ℕ → Type 0) (mark left : ℕ) → Same a a' → Same f f' →
    Same (SeparatedFrom a f mark left) (SeparatedFrom a' f' mark left)
Same-SeparatedFrom a f a' f' mark zero s t = s
Same-SeparatedFrom a f a' f' mark (suc left) s t =
    let row : List ℕ → Type 0 = SeparatedFrom f f mark left in
    let row' : List ℕ → Type 0 = SeparatedFrom f' f' mark left in
    Same-EitherOf a (Joined (Marked a mark) row) a' (Joined (Marked a' mark) row') s
    (Same-Joined (Marked a mark) row (Marked a' mark) row' (Same-Marked a a' mark s) (Same-SeparatedFrom f f f' f' mark left t t))
