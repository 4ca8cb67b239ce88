-- Why a run ends without its listing.
use Rattle.std.specs.Prelude.{ℕ, List, ◌++◌, codes, decimal}
use Rattle.hbase_shell.specs.declared.run_error.RunError.{RunError}
use Rattle.hbase_shell.specs.declared.run_error.RunError.TheVariants.{TooLong, BadScript, Usage, ReadFault, NsFault, NoMemory}
use Rattle.shell_words.specs.declared.words.WordsError.{WordsError}
use Rattle.shell_words.specs.declared.words.WordsError.TheVariants as words
use Rattle.hbase_shell.specs.Script.{line}

-- the error of words that are not read
abbrev pub error_of : WordsError → RunError
error_of words.Usage = Usage
error_of words.NoMemory = NoMemory

-- the exit status of each
abbrev pub status_of : RunError → ℕ
status_of TooLong = 1
status_of (BadScript bad) = 1
status_of Usage = 2
status_of ReadFault = 3
status_of NsFault = 5
status_of NoMemory = 8

-- the line that tells the place of a bad line
abbrev pub bad_line : ℕ → ℕ → ℕ → List ℕ
bad_line session number column =
    line (codes "error BadScript session " ++ decimal session ++ codes " line " ++ decimal number ++ codes " column " ++ decimal column)

-- the last line that each writes
abbrev pub last_line : RunError → List ℕ
last_line TooLong = line (codes "error TooLong")
last_line (BadScript bad) = bad.text
last_line Usage = line (codes "error Usage")
last_line ReadFault = line (codes "error ReadFault")
last_line NsFault = line (codes "error NsFault")
last_line NoMemory = line (codes "error NoMemory")
