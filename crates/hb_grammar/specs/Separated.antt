use Rattle.std.specs.Prelude.{ℕ, zero, suc, List}
use Rattle.hb_grammar.specs.Joined.{Joined}
use Rattle.hb_grammar.specs.Marked.{Marked}
use Rattle.hb_grammar.specs.Either.{EitherOf}

-- a string of the grammar current, and at most so many more of the grammar fresh, each behind a mark
abbrev pub SeparatedFrom : (List ℕ → Type 0) → (List ℕ → Type 0) → ℕ → ℕ → List ℕ → Type 0
SeparatedFrom current fresh mark zero = current
SeparatedFrom current fresh mark (suc left) = EitherOf current (Joined (Marked current mark) (SeparatedFrom fresh fresh mark left))

-- one string of a grammar and at most so many more, with a mark between each two
abbrev pub SeparatedOf : (List ℕ → Type 0) → ℕ → ℕ → List ℕ → Type 0
SeparatedOf inner mark more = SeparatedFrom inner inner mark more
