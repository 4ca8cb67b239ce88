-- What the text of an argument may mean.
use Rattle.std.specs.Prelude.{◌≡◌, ℕ, zero, suc, ◌-◌, nat_lt, nat_eq, Bool, true, false, ◌&&◌, cond, List, [], ◌∷◌, Option, Some, None}
use Rattle.hb_grammar.specs.declared.class.Class.{Class}
use Rattle.hb_grammar.specs.declared.class.Class.TheVariants.{Name, FamilyStart, Component}
use Rattle.hb_grammar.specs.Class.{has}
use Rattle.shell_text.specs.declared.argument.Argument.{Argument}
use Rattle.shell_text.specs.declared.argument.Argument.TheVariants.{Named, Run, Column, Qualifier, Part, OneDot, TwoDots}
use Rattle.shell_text.specs.declared.argument.TheConstants.{MAX_QUALIFIER}

-- whether a run has this byte: any byte, or one of a class
abbrev pub has_byte : Option Class → ℕ → Bool
has_byte None byte = true
has_byte (Some class) byte = has class byte

-- what is left of a run of so many bytes and so many more
abbrev pub run_next : Option Class → ℕ → ℕ → Option Argument
run_next class (suc least) more = Some (Run class least more)
run_next class zero (suc more) = Some (Run class 0 more)
run_next class zero zero = None

-- what is left of the rest of a family's name, its colon and a qualifier; 58 is the colon
abbrev pub qualifier_next : ℕ → ℕ → Option Argument
qualifier_next more byte = cond (nat_eq byte 58) (Some (Run None 0 MAX_QUALIFIER)) (cond (nat_lt 0 more && has Name byte) (Some (Qualifier (more - 1))) None)

-- what is left of a component, of which only dots were read, behind another byte
abbrev pub part_next : ℕ → ℕ → Option Argument
part_next byte more = cond (has Component byte) (Some (Run (Some Component) 0 more)) None

-- what is left of an argument's meaning after a byte; 46 is the dot
abbrev pub next : Argument → ℕ → Option Argument
next (Named first more) byte = cond (has first byte) (Some (Run (Some Name) 0 more)) None
next (Run class least more) byte = cond (has_byte class byte) (run_next class least more) None
next Column byte = cond (has FamilyStart byte) (Some (Qualifier 126)) None
next (Qualifier more) byte = qualifier_next more byte
next Part byte = cond (nat_eq byte 46) (Some OneDot) (part_next byte 254)
next OneDot byte = cond (nat_eq byte 46) (Some TwoDots) (part_next byte 253)
next TwoDots byte = part_next byte 252

-- whether an argument's meaning may end
abbrev pub is_done : Argument → Bool
is_done (Run class least more) = nat_eq least 0
is_done _ = false

-- whether some byte may come
abbrev pub is_open : Argument → Bool
is_open (Run class zero zero) = false
is_open _ = true

-- the bytes are what may be left of an argument's meaning, if anything may
abbrev pub IsLeft : List ℕ → Option Argument → Type 0
IsLeft [] None = ⊥
IsLeft [] (Some argument) = is_done argument ≡ true
IsLeft (byte ∷ bytes) None = ⊥
IsLeft (byte ∷ bytes) (Some argument) = IsLeft bytes (next argument byte)

-- the bytes are the meaning of an argument
abbrev pub Means : Argument → List ℕ → Type 0
Means argument bytes = IsLeft bytes (Some argument)
