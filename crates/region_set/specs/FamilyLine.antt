use Rattle.std.specs.Prelude.{ℕ, List, ◌++◌, codes, true, Bool, Option, Some, None, ◌==◌}
use Rattle.std.specs.Fmt.{decimal}
use Rattle.hb_grammar.specs.AtLeast.{IsAtLeast, NotBelow}
use Rattle.hb_names.specs.FamilyName.{IsFamilyName}
use Rattle.commit_line.specs.Line.{field, ended, IsNumber}

-- a family that a set can have: a name, and 1 to 2 ^ 31 - 1 versions
pub record IsFamily (family : List ℕ × ℕ) : Type 0 where
  pub name : IsFamilyName family.0
  pub versions : IsNumber 1 2_147_483_647 family.1

-- a family that may stand behind another: its name is not below that one's
abbrev pub IsFamilyBehind : Option (List ℕ × ℕ) → List ℕ × ℕ → Type 0
IsFamilyBehind None family = IsFamily family
IsFamilyBehind (Some last) family = IsFamily family × IsAtLeast last.0 family.0

-- a family's name that may stand behind another family
abbrev pub IsNameBehind : Option (List ℕ × ℕ) → List ℕ → Type 0
IsNameBehind None = NotBelow IsFamilyName None
IsNameBehind (Some last) = NotBelow IsFamilyName (Some last.0)

-- the line of a family
abbrev pub family_text : List ℕ × ℕ → List ℕ
family_text family = field (codes "family") ++ (field family.0 ++ ended (decimal family.1))

-- whether a line's first byte is that of a family's, which is f
abbrev pub begins_family : ℕ → Bool
begins_family byte = byte == 102
