-- The lines of a script.
use Rattle.std.specs.Prelude.{◌≡◌, ℕ, List, ◌++◌, Contains, codes, false, length, take, drop}
use Rattle.shell_line.specs.declared.line_kind.LineKind.{LineKind}
use Rattle.shell_line.specs.declared.line_kind.LineKind.TheVariants as kind
use Rattle.shell_line.specs.declared.line_kind.Arguments.{Arguments}
use Rattle.shell_line.specs.declared.line_kind.Arguments.TheVariants.{Nothing, One, Two, Put, Delete, Create}
use Rattle.shell_text.specs.Blanks.{BlanksFrom}
use Rattle.shell_line.specs.Table.{IsCreate, IsDelete, IsOne, IsPut, IsTwo, folder, name, row}

-- the word that a line begins with
abbrev pub word : LineKind → List ℕ
word kind.Create = codes "create"
word kind.Put = codes "put"
word kind.Delete = codes "delete"
word kind.Scan = codes "scan"
word kind.Flush = codes "flush"
word kind.Compact = codes "compact"
word kind.MajorCompact = codes "major_compact"
word kind.Disable = codes "disable"
word kind.Enable = codes "enable"
word kind.Drop = codes "drop"
word kind.Split = codes "split"
word kind.Snapshot = codes "snapshot"
word kind.ListSnapshots = codes "list_snapshots"
word kind.DeleteSnapshot = codes "delete_snapshot"
word kind.CloneSnapshot = codes "clone_snapshot"
word kind.RestoreSnapshot = codes "restore_snapshot"
word kind.Bulkload = codes "bulkload"
word kind.CatalogjanitorRun = codes "catalogjanitor_run"
word kind.CleanerChoreRun = codes "cleaner_chore_run"

-- what stands behind the word
abbrev pub arguments : LineKind → Arguments
arguments kind.Create = Create
arguments kind.Put = Put
arguments kind.Delete = Delete
arguments kind.Scan = One name
arguments kind.Flush = One name
arguments kind.Compact = One name
arguments kind.MajorCompact = One name
arguments kind.Disable = One name
arguments kind.Enable = One name
arguments kind.Drop = One name
arguments kind.Split = Two name row
arguments kind.Snapshot = Two name name
arguments kind.ListSnapshots = Nothing
arguments kind.DeleteSnapshot = One name
arguments kind.CloneSnapshot = Two name name
arguments kind.RestoreSnapshot = One name
arguments kind.Bulkload = Two name folder
arguments kind.CatalogjanitorRun = Nothing
arguments kind.CleanerChoreRun = Nothing

-- the bytes of the arguments, and the blanks that end a line
abbrev pub IsArguments : Arguments → List ℕ → Type 0
IsArguments Nothing = BlanksFrom false
IsArguments (One argument) = IsOne argument
IsArguments (Two first second) = IsTwo first second
IsArguments Put = IsPut
IsArguments Delete = IsDelete
IsArguments Create = IsCreate

-- a line of a kind that is among these: its word, and its arguments
pub record IsLine (kinds : List LineKind) (bytes : List ℕ) : Type 0 where
  pub kind : LineKind
  pub listed : Contains kinds kind
  pub rest : List ℕ
  pub whole : bytes ≡ word kind ++ rest
  pub in_arguments : IsArguments (arguments kind) rest

-- what stands behind the word of a kind
abbrev pub behind_word : LineKind → List ℕ → List ℕ
behind_word kind bytes = drop (length (word kind)) bytes

-- a line of this kind: its word, and its arguments
pub record IsLineOf (kind : LineKind) (bytes : List ℕ) : Type 0 where
  pub begins : take (length (word kind)) bytes ≡ word kind
  pub in_arguments : IsArguments (arguments kind) (behind_word kind bytes)

-- a word begins with a front
abbrev pub Begins : List ℕ → List ℕ → Type 0
Begins front bytes = (rest : List ℕ) × (bytes ≡ front ++ rest)

-- a front of the word of a kind that is among these
pub record IsBegun (kinds : List LineKind) (front : List ℕ) : Type 0 where
  pub kind : LineKind
  pub listed : Contains kinds kind
  pub begins : Begins front (word kind)
