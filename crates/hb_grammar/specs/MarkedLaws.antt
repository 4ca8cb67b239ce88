use Rattle.std.proofs.Common.{◌≡◌, ℕ, List, [], ◌∷◌, ◌++◌, refl, Option, Some, None}
use Rattle.hb_grammar.specs.Grammar.{IsLive, Refuses}
use Rattle.hb_grammar.specs.Marked.{Marked, UntilMark}

-- no bytes end with no mark
nil-marked : (mark : ℕ) (front : List ℕ) → [] ≡ front ++ mark ∷ [] → ⊥
nil-marked mark [] e = cc
nil-marked mark (x ∷ xs) e = cc

-- the string of no bytes has no mark at its end
pub Marked-nil : (inner : List ℕ → Type 0) (mark : ℕ) → Marked inner mark [] → ⊥
Marked-nil inner mark marked = nil-marked mark marked.front marked.whole

-- what is left of a grammar and its mark has a string
pub IsLive-UntilMark : {A : Type 0} (spells : A → List ℕ → Type 0) → ((a : A) → IsLive (spells a)) → (inner : Option A) (mark : ℕ) →
    IsLive (UntilMark spells inner mark)
IsLive-UntilMark spells lives None mark = ([], refl)
IsLive-UntilMark spells lives (Some a) mark = ((lives a).0 ++ mark ∷ [], record { front = (lives a).0; whole = refl; in_inner = (lives a).1 })

-- behind the mark stands nothing
pub Refuses-UntilMark : {A : Type 0} (spells : A → List ℕ → Type 0) (inner : Option A) (mark : ℕ) → UntilMark spells inner mark [] →
    (byte : ℕ) → Refuses (UntilMark spells inner mark) byte
Refuses-UntilMark spells None mark whole byte = λ rest e. cc
Refuses-UntilMark spells (Some a) mark whole byte = absurd (Marked-nil (spells a) mark whole)
