use Rattle.std.specs.Prelude.{ℕ, List}
use Rattle.hb_grammar.specs.declared.class.Class.TheVariants.{Name, NameStart}
use Rattle.hb_grammar.specs.Run.{IsRun, IsExactly}
use Rattle.hb_grammar.specs.Joined.{Joined}

-- a qualifier: 1 to 100 letters, digits and _ - . of which the first is neither - nor .
abbrev pub IsQualifier : List ℕ → Type 0
IsQualifier = Joined (IsExactly NameStart 1) (IsRun Name 0 99)
