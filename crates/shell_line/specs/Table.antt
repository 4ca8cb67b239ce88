-- The lines of a script, without the words that they begin with.
use Rattle.std.specs.Prelude.{◌≡◌, ℕ, List, Bool, true, false, codes, None}
use Rattle.hb_grammar.specs.declared.class.Class.TheVariants.{NameStart, FamilyStart}
use Rattle.hb_grammar.specs.Joined.{Joined}
use Rattle.hb_grammar.specs.Marked.{Marked}
use Rattle.hb_grammar.specs.Either.{EitherOf}
use Rattle.hb_grammar.specs.Numeral.{IsNumeral}
use Rattle.shell_text.specs.declared.argument.Argument.{Argument}
use Rattle.shell_text.specs.declared.argument.Argument.TheVariants.{Named, Run, Column, Part}
use Rattle.shell_text.specs.declared.argument.TheConstants.{MAX_VALUE}
use Rattle.shell_text.specs.Blanks.{BlanksFrom, PaddedFrom}
use Rattle.shell_text.specs.Repeated.{ItemsThen}
use Rattle.shell_text.specs.Text.{IsText}
use Rattle.shell_line.specs.declared.form.TheConstants.{MAX_STAMP, MAX_VERSIONS}

-- the name of a table or of a snapshot: 1 to 100 bytes
abbrev pub name : Argument
name = Named NameStart 99

-- the name of a family: 1 to 127 bytes
abbrev pub family : Argument
family = Named FamilyStart 126

-- a row: 1 to 32,767 bytes
abbrev pub row : Argument
row = Run None 1 32766

-- a value: up to 10,485,760 bytes
abbrev pub cell_value : Argument
cell_value = Run None 0 MAX_VALUE

-- a family, a colon and a qualifier
abbrev pub column : Argument
column = Column

-- a folder: one component of a place
abbrev pub folder : Argument
folder = Part

-- blanks, any or at least one, and then a mark
abbrev pub IsLead : Bool → ℕ → List ℕ → Type 0
IsLead some mark = Marked (BlanksFrom some) mark

-- an argument behind blanks, in its quotes; 39 is the quote
abbrev pub IsQuoted : Bool → Argument → List ℕ → Type 0
IsQuoted some argument = Joined (IsLead some 39) (Marked (IsText argument) 39)

-- a further argument, behind its comma; 44 is the comma
abbrev pub IsItem : Argument → List ℕ → Type 0
IsItem argument = Joined (IsLead false 44) (IsQuoted false argument)

-- a number at the end of a line, with blanks behind it or without them; 32 is the blank
abbrev pub IsNumberEnd : ℕ → ℕ → List ℕ → Type 0
IsNumberEnd low max = EitherOf (IsNumeral low max) (Joined (Marked (IsNumeral low max) 32) (BlanksFrom false))

-- the end of a line, or a timestamp behind a comma and then the end
abbrev pub IsStamp : List ℕ → Type 0
IsStamp = EitherOf (BlanksFrom false) (Joined (IsLead false 44) (PaddedFrom true (IsNumberEnd 0 MAX_STAMP)))

-- 'version' in its quotes, written without escapes, and the end of a line
abbrev pub IsVersion : List ℕ → Type 0
IsVersion = Joined (IsLead false 39) (Joined (λ bytes. bytes ≡ codes "version'") (BlanksFrom false))

-- a timestamp, and then 'version' behind a comma
abbrev pub IsStampVersion : List ℕ → Type 0
IsStampVersion = EitherOf (Joined (Marked (IsNumeral 0 MAX_STAMP) 44) IsVersion)
    (Joined (Marked (IsNumeral 0 MAX_STAMP) 32) (Joined (IsLead false 44) IsVersion))

-- the end of a line; or a timestamp, and 'version' behind it or not
abbrev pub IsVersionStamp : List ℕ → Type 0
IsVersionStamp = EitherOf IsStamp (Joined (IsLead false 44) (PaddedFrom true IsStampVersion))

-- the word splits, 1 to 999 rows and the end of a line; 115 is s
abbrev pub IsSplits : Bool → List ℕ → Type 0
IsSplits some = Joined (IsLead some 115) (Joined (λ bytes. bytes ≡ codes "plits") (Joined (IsQuoted true row) (ItemsThen (IsItem row) (BlanksFrom false) 998)))

-- a number of versions, and then splits or the end of a line
abbrev pub IsVersionCount : List ℕ → Type 0
IsVersionCount = EitherOf (IsNumberEnd 1 MAX_VERSIONS) (Joined (Marked (IsNumeral 1 MAX_VERSIONS) 32) (IsSplits false))

-- the word versions and its number; 118 is v
abbrev pub IsVersions : List ℕ → Type 0
IsVersions = Joined (IsLead true 118) (Joined (λ bytes. bytes ≡ codes "ersions ") (PaddedFrom true IsVersionCount))

-- the end of a line that creates a table
abbrev pub IsCreateEnd : List ℕ → Type 0
IsCreateEnd = EitherOf (BlanksFrom false) (EitherOf IsVersions (IsSplits true))

-- one argument
abbrev pub IsOne : Argument → List ℕ → Type 0
IsOne argument = Joined (IsQuoted true argument) (BlanksFrom false)

-- two arguments
abbrev pub IsTwo : Argument → Argument → List ℕ → Type 0
IsTwo first second = Joined (IsQuoted true first) (Joined (IsItem second) (BlanksFrom false))

-- a table, a row, a column, a value, and a timestamp or none
abbrev pub IsPut : List ℕ → Type 0
IsPut = Joined (IsQuoted true name) (Joined (IsItem row) (Joined (IsItem column) (Joined (IsItem cell_value) IsStamp)))

-- a column, and a timestamp, with 'version' or not; or a family, and a timestamp or none
abbrev pub IsDeleted : List ℕ → Type 0
IsDeleted = EitherOf (Joined (IsItem column) IsVersionStamp) (Joined (IsItem family) IsStamp)

-- a table, a row, and what is deleted of it
abbrev pub IsDelete : List ℕ → Type 0
IsDelete = Joined (IsQuoted true name) (Joined (IsItem row) IsDeleted)

-- a table, 1 to 16 families, and versions and splits or none
abbrev pub IsCreate : List ℕ → Type 0
IsCreate = Joined (IsQuoted true name) (Joined (IsItem family) (ItemsThen (IsItem family) IsCreateEnd 15))
