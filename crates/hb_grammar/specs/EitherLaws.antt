use Rattle.std.proofs.Common.{◌≡◌, ℕ, List, inl, inr, Option, Some, None, refl}
use Rattle.hb_grammar.specs.Grammar.{IsLive}
use Rattle.hb_grammar.specs.Either.{IfLeft, EitherOf}

-- of two grammars, one of which is there still, there is a string
pub IsLive-EitherOf : {A B : Type 0} (spells_first : A → List ℕ → Type 0) (spells_second : B → List ℕ → Type 0) →
    ((a : A) → IsLive (spells_first a)) → ((b : B) → IsLive (spells_second b)) →
    (first : Option A) (second : Option B) → (first ≡ None → second ≡ None → ⊥) →
    IsLive (EitherOf (IfLeft spells_first first) (IfLeft spells_second second))
IsLive-EitherOf spells_first spells_second lives_first lives_second (Some a) second some = ((lives_first a).0, inl (lives_first a).1)
IsLive-EitherOf spells_first spells_second lives_first lives_second None (Some b) some = ((lives_second b).0, inr (lives_second b).1)
IsLive-EitherOf spells_first spells_second lives_first lives_second None None some = absurd (some refl refl)
