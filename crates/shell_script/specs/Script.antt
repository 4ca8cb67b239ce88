-- A script as the sessions of its lines.
use Rattle.std.specs.Prelude.{◌≡◌, ℕ, ◌+◌, ◌<◌, ◌≤◌, Bool, true, false, List, [], ◌∷◌, ◌++◌, count_by, length}
use Rattle.shell_line.specs.declared.line_kind.LineKind.{LineKind}
use Rattle.shell_script.specs.declared.session.Session.{Session}
use Rattle.shell_script.specs.declared.script.ScriptError.{ScriptError}
use Rattle.shell_script.specs.declared.script.ScriptError.TheVariants.{BadLine, TooManySessions, NoMemory}
use Rattle.shell_script.specs.declared.script.TheConstants.{MAX_SESSIONS}
use Rattle.shell_script.specs.Block.{begins, block_name, is_block, names_of}
use Rattle.shell_script.specs.Lines.{kept_lines}
use Rattle.shell_script.specs.Session.{AllAsk, AreGood, IsBadBehind}

-- a session of a script with blocks: its block line, and the lines behind that, which ask for its jobs
pub record IsSession (kinds : List LineKind) (lines : List (ℕ × List ℕ)) (session : Session) : Type 0 where
  pub number : ℕ
  pub text : List ℕ
  pub more : List (ℕ × List ℕ)
  pub whole : lines ≡ (number, text) ∷ more
  pub block : is_block text ≡ true
  pub named : session.name ≡ block_name text
  pub asked : AllAsk kinds more session.lines

-- the lines are those of the sessions, one behind another
abbrev pub AreSessions : List LineKind → List (ℕ × List ℕ) → List Session → Type 0
AreSessions kinds lines [] = lines ≡ []
AreSessions kinds lines (session ∷ sessions) =
    (front : List (ℕ × List ℕ)) × (back : List (ℕ × List ℕ)) × (lines ≡ front ++ back) × IsSession kinds front session × AreSessions kinds back sessions

-- the sessions of lines: one for each block; or, without blocks, one without a name, whose jobs are those of all lines
abbrev pub AreParsed : List LineKind → Bool → List (ℕ × List ℕ) → List Session → Type 0
AreParsed kinds true lines sessions = AreSessions kinds lines sessions
AreParsed kinds false lines sessions = (session : Session) × (sessions ≡ session ∷ []) × (session.name ≡ []) × AllAsk kinds lines session.lines

-- how many sessions the lines of some bytes begin
abbrev pub block_count : Bool → List ℕ → ℕ
block_count blocks bytes = count_by (λ (line : ℕ × List ℕ). begins blocks line.1) (kept_lines 1 bytes)

-- The first bad line: those before it are good. Its session is the number of blocks before it, and its column is that
-- of the first bad byte, counted from 1.
pub record IsFirstBad (kinds : List LineKind) (blocks : Bool) (lines : List (ℕ × List ℕ)) (session line column : ℕ) : Type 0 where
  pub front : List (ℕ × List ℕ)
  pub text : List ℕ
  pub back : List (ℕ × List ℕ)
  pub at : ℕ
  pub whole : lines ≡ front ++ (line, text) ∷ back
  pub good : AreGood kinds blocks [] front
  pub begun : session ≡ length (names_of blocks front)
  pub bad : IsBadBehind kinds blocks (names_of blocks front) text at
  pub column_is : column ≡ at + 1

-- lines have a bad one, and which is the first; or there is no memory for their jobs
abbrev pub IsLinesError : List LineKind → Bool → List (ℕ × List ℕ) → ScriptError → Type 0
IsLinesError kinds blocks lines (BadLine session line column) = IsFirstBad kinds blocks lines session line column
IsLinesError kinds blocks lines TooManySessions = ⊥
IsLinesError kinds blocks lines NoMemory = Unit {0}

-- a script begins too many sessions; or it does not, and has a bad line; or there is no memory
abbrev pub IsScriptError : List LineKind → Bool → List ℕ → ScriptError → Type 0
IsScriptError kinds blocks bytes (BadLine session line column) =
    (block_count blocks bytes ≤ MAX_SESSIONS) × IsFirstBad kinds blocks (kept_lines 1 bytes) session line column
IsScriptError kinds blocks bytes TooManySessions = MAX_SESSIONS < block_count blocks bytes
IsScriptError kinds blocks bytes NoMemory = Unit {0}
