-- What is taken from the front of a list.
use Rattle.std.specs.Prelude.{◌≡◌, List, [], ◌∷◌, Option, Some, None}

-- the first is taken, or there is none
abbrev pub IsTaken : {X : Type 0} → Option X → List X → List X → Type 0
IsTaken None old new = (old ≡ []) × (new ≡ [])
IsTaken (Some x) old new = old ≡ x ∷ new
