-- The script, and how much of it was read.
use Rattle.std.specs.Prelude.{◌≡◌, ◌≤◌, ◌<◌, ◌+◌, ℕ, List, [], ◌∷◌, ◌++◌, false, length, take, drop, Option, Some, IfSome}
use Rattle.shell_line.specs.declared.line_kind.LineKind.{LineKind}
use Rattle.shell_line.specs.declared.line_kind.LineKind.TheVariants as kind
use Rattle.shell_script.specs.Lines.{kept_lines}
use Rattle.shell_script.specs.Session.{AreGood}
use Rattle.shell_script.specs.Script.{IsFirstBad}
use Rattle.hbase_shell.specs.declared.script.TheConstants.{MAX_INPUT}

-- a text and the line feed that ends its line
abbrev pub line : List ℕ → List ℕ
line text = text ++ 10 ∷ []

-- the kinds of lines that the program runs
abbrev pub run_kinds : List LineKind
run_kinds = kind.ListSnapshots ∷ []

-- the lines of a script that count, with their numbers
abbrev pub lines_of : List ℕ → List (ℕ × List ℕ)
lines_of input = kept_lines 1 input

-- a script that the program runs: it is not too long, and each line that counts is one of the grammar
pub record IsScript (input : List ℕ) : Type 0 where
  pub short : length input ≤ MAX_INPUT
  pub good : AreGood run_kinds false [] (lines_of input)

-- all of the input was read; a source that tells had this left
abbrev pub ReadsWhole : Option (List ℕ) → Option (List ℕ) → List ℕ → Type 0
ReadsWhole left rest input = IfSome left (λ told. (told ≡ input) × (rest ≡ Some []))

-- the input is longer than a script may be, and one byte more than that was read of it
abbrev pub ReadsTooLong : Option (List ℕ) → Option (List ℕ) → Type 0
ReadsTooLong left rest = IfSome left (λ told. (MAX_INPUT < length told) × (rest ≡ Some (drop (MAX_INPUT + 1) told)))

-- the input is not too long, all of it was read, and it has a bad line, which is the first
pub record ReadsBad (left rest : Option (List ℕ)) (session number column : ℕ) : Type 0 where
  pub input : List ℕ
  pub whole : ReadsWhole left rest input
  pub short : length input ≤ MAX_INPUT
  pub bad : IsFirstBad run_kinds false (lines_of input) session number column

-- a source that tells has moved this many bytes to the front of the buffer
abbrev pub HasMoved : ℕ → Option (List ℕ) → Option (List ℕ) → List ℕ → Type 0
HasMoved count left rest buffer = IfSome left (λ input. (count ≤ length input) × (take count buffer ≡ take count input) × (rest ≡ Some (drop count input)))

-- a source that tells had these bytes in front of what it has left
abbrev pub HasRead : Option (List ℕ) → Option (List ℕ) → List ℕ → Type 0
HasRead left rest bytes = IfSome left (λ told. (more : List ℕ) × (told ≡ bytes ++ more) × (rest ≡ Some more))
