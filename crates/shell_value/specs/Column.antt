-- A family, a colon and a qualifier.
use Rattle.std.specs.Prelude.{◌≡◌, ℕ, ◌≤◌, List, ◌∷◌, ◌++◌, length}
use Rattle.hb_names.specs.FamilyName.{IsFamilyName}

-- the name of a family, a colon, whose code is 58, and a qualifier of up to 32,767 bytes
pub record IsColumn (bytes : List ℕ) : Type 0 where
  pub family : List ℕ
  pub qualifier : List ℕ
  pub whole : bytes ≡ family ++ 58 ∷ qualifier
  pub named : IsFamilyName family
  pub most : length qualifier ≤ 32767
