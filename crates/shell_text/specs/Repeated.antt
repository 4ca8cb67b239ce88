-- Items, and then a tail.
use Rattle.std.specs.Prelude.{ℕ, zero, suc, List, ◌++◌, Option}
use Rattle.hb_grammar.specs.Joined.{Joined}
use Rattle.hb_grammar.specs.Either.{EitherOf, IfLeft}

-- up to so many items, and behind them a tail
abbrev pub ItemsThen : (List ℕ → Type 0) → (List ℕ → Type 0) → ℕ → List ℕ → Type 0
ItemsThen item tail zero = tail
ItemsThen item tail (suc more) = EitherOf tail (Joined item (ItemsThen item tail more))

-- what is left of a tail and of an item with what follows it, where each may be gone
abbrev pub RepeatedFrom : {A B : Type 0} → (A → List ℕ → Type 0) → (B → List ℕ → Type 0) → Option A → Option B → A → B → ℕ → List ℕ → Type 0
RepeatedFrom items tails item tail fresh_item fresh_tail more =
    EitherOf (IfLeft tails tail) (Joined (IfLeft items item) (ItemsThen (items fresh_item) (tails fresh_tail) more))

-- no string of the first begins one of the second
abbrev pub Parts : (List ℕ → Type 0) → (List ℕ → Type 0) → Type 0
Parts item tail = (front back : List ℕ) → item front → tail (front ++ back) → ⊥

-- no item that is left begins a tail that is left
abbrev pub PartsLeft : {A B : Type 0} → (A → List ℕ → Type 0) → (B → List ℕ → Type 0) → Option A → Option B → Type 0
PartsLeft items tails item tail = (front back : List ℕ) → IfLeft items item front → IfLeft tails tail (front ++ back) → ⊥
