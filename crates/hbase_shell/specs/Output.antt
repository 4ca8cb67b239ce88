-- What a run writes.
use Rattle.std.specs.Prelude.{◌≡◌, ℕ, List, ◌++◌, take, Option, Some, IfSome}

-- a sink that tells has been written this text
abbrev pub Writes : Option (List ℕ) → Option (List ℕ) → List ℕ → Type 0
Writes old new text = IfSome old (λ written. new ≡ Some (written ++ text))

-- a sink that tells has been written a front of this text
abbrev pub WritesFront : Option (List ℕ) → Option (List ℕ) → List ℕ → Type 0
WritesFront old new text = IfSome old (λ written. (n : ℕ) × (new ≡ Some (written ++ take n text)))
