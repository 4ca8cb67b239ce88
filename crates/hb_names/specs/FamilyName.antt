use Rattle.std.specs.Prelude.{ℕ, List}
use Rattle.hb_grammar.specs.declared.class.Class.TheVariants.{Name, FamilyStart}
use Rattle.hb_grammar.specs.Run.{IsRun, IsExactly}
use Rattle.hb_grammar.specs.Joined.{Joined}

-- a column family's name: 1 to 127 letters, digits and _ - . of which the first is not .
abbrev pub IsFamilyName : List ℕ → Type 0
IsFamilyName = Joined (IsExactly FamilyStart 1) (IsRun Name 0 126)
