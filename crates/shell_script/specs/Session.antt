-- What may stand at each place of a script, and what it adds to the sessions that were begun.
use Rattle.std.specs.Prelude.{◌≡◌, ◌⊎◌, ℕ, Bool, true, false, cond, List, [], ◌∷◌, ◌++◌, length, map}
use Rattle.hb_grammar.specs.Grammar.{IsFault}
use Rattle.hb_grammar.specs.Either.{EitherOf}
use Rattle.shell_line.specs.declared.line_kind.LineKind.{LineKind}
use Rattle.shell_line.specs.Line.{IsLine}
use Rattle.shell_lang.specs.Line.{Asks}
use Rattle.shell_script.specs.declared.session.NumberedJob.{NumberedJob}
use Rattle.shell_script.specs.declared.session.Session.{Session}
use Rattle.shell_script.specs.declared.add.Refusal.{Refusal}
use Rattle.shell_script.specs.declared.add.Refusal.TheVariants.{Behind, NoMemory}
use Rattle.shell_script.specs.Block.{IsBlock, begins, block_name, is_used}

-- what may stand behind blocks of these names: a line of one of the kinds, or a block line; and in a script with
-- blocks no other stands before the first of them
abbrev pub IsAllowed : List LineKind → Bool → List (List ℕ) → List ℕ → Type 0
IsAllowed kinds false names = IsLine kinds
IsAllowed kinds true [] = IsBlock
IsAllowed kinds true (name ∷ names) = EitherOf (IsLine kinds) IsBlock

-- a line that may stand there, and begins no session of a name that is used
pub record IsGood (kinds : List LineKind) (blocks : Bool) (names : List (List ℕ)) (line : List ℕ) : Type 0 where
  pub allowed : IsAllowed kinds blocks names line
  pub fresh : begins blocks line ≡ true → is_used names (block_name line) ≡ false

-- the names behind a line
abbrev pub names_behind : Bool → List (List ℕ) → List ℕ → List (List ℕ)
names_behind blocks names line = cond (begins blocks line) (names ++ block_name line ∷ []) names

-- each line is good behind those before it
abbrev pub AreGood : List LineKind → Bool → List (List ℕ) → List (ℕ × List ℕ) → Type 0
AreGood kinds blocks names [] = Unit {0}
AreGood kinds blocks names (line ∷ lines) = IsGood kinds blocks names line.1 × AreGood kinds blocks (names_behind blocks names line.1) lines

-- A line is bad behind this many bytes: they are its longest prefix with which a line begins that may stand there; or
-- all of it, which begins a session of a name that is used.
abbrev pub IsBadBehind : List LineKind → Bool → List (List ℕ) → List ℕ → ℕ → Type 0
IsBadBehind kinds blocks names line at =
    IsFault (IsAllowed kinds blocks names) line at
    ⊎ ((begins blocks line ≡ true) × (is_used names (block_name line) ≡ true) × (at ≡ length line))

-- a block line begins a session of a name that is used, and is bad behind all of it; or there is no memory
abbrev pub IsTaken : List (List ℕ) → List ℕ → Refusal → Type 0
IsTaken names line (Behind at) = (is_used names (block_name line) ≡ true) × (at ≡ length line)
IsTaken names line NoMemory = Unit {0}

-- a line is bad, or there is no memory
abbrev pub IsRefused : List LineKind → Bool → List (List ℕ) → List ℕ → Refusal → Type 0
IsRefused kinds blocks names line (Behind at) = IsBadBehind kinds blocks names line at
IsRefused kinds blocks names line NoMemory = Unit {0}

-- each line asks for its job, which has its number
abbrev pub AllAsk : List LineKind → List (ℕ × List ℕ) → List NumberedJob → Type 0
AllAsk kinds [] [] = Unit {0}
AllAsk kinds [] (asked ∷ jobs) = ⊥
AllAsk kinds (numbered ∷ rest) [] = ⊥
AllAsk kinds (numbered ∷ rest) (asked ∷ jobs) = (asked.line ≡ numbered.0) × Asks kinds numbered.1 asked.job × AllAsk kinds rest jobs

-- the name of a session
abbrev pub name_of : Session → List ℕ
name_of session = session.name

-- the names of the blocks that were begun
abbrev pub names_begun : Bool → List Session → List (List ℕ)
names_begun blocks sessions = cond blocks (map name_of sessions) []

-- the sessions before the first line: none, or in a script without blocks one of no name
abbrev pub IsStart : Bool → List Session → Type 0
IsStart true sessions = sessions ≡ []
IsStart false sessions = (session : Session) × (sessions ≡ session ∷ []) × (session.name ≡ []) × (session.lines ≡ [])

-- a session of this name and no jobs stands behind the others
abbrev pub Begins : List Session → List ℕ → List Session → Type 0
Begins old name new = (session : Session) × (new ≡ old ++ session ∷ []) × (session.name ≡ name) × (session.lines ≡ [])

-- a job stands behind the others of the last session
pub record Adds (old : List Session) (job : NumberedJob) (new : List Session) : Type 0 where
  pub front : List Session
  pub before : Session
  pub after : Session
  pub was : old ≡ front ++ before ∷ []
  pub is : new ≡ front ++ after ∷ []
  pub named : after.name ≡ before.name
  pub jobs : after.lines ≡ before.lines ++ job ∷ []

-- what a line adds: a session, or the job that it asks for
abbrev pub IsAdded : List LineKind → Bool → List Session → ℕ × List ℕ → List Session → Type 0
IsAdded kinds blocks old line new =
    ((begins blocks line.1 ≡ true) × Begins old (block_name line.1) new)
    ⊎ ((begins blocks line.1 ≡ false) × (job : NumberedJob) × Adds old job new × (job.line ≡ line.0) × Asks kinds line.1 job.job)
