-- What a reading of the words says.
use Rattle.std.specs.Prelude.{◌≡◌, ◌≢◌, ⊤, List, [], Result, Ok, Err}
use Rattle.clap.specs.Words.{Text, fault_of, matches_of}
use Rattle.shell_words.specs.declared.options.Options.{Options}
use Rattle.shell_words.specs.declared.words.WordsError.{WordsError}
use Rattle.shell_words.specs.declared.words.WordsError.TheVariants.{Usage, NoMemory}
use Rattle.shell_words.specs.Command.{IsCommand}
use Rattle.shell_words.specs.Matches.{options_of}
use Rattle.clap.specs.Words.{App}

-- the command takes the words, and its matches say these options
abbrev pub Takes : List Text → Options → Type 0
Takes ws options = (a : App) × IsCommand a × (fault_of a ws ≡ []) × (options_of (matches_of a ws) ≡ options)

-- the command takes the words
abbrev pub AreTaken : List Text → Type 0
AreTaken ws = (options : Options) × Takes ws options

-- the command refuses the words, for another cause than memory
abbrev pub Refuses : List Text → Type 0
Refuses ws = (a : App) × IsCommand a × (fault_of a ws ≢ [])

-- `Usage` comes where the words are refused, an `Ok` where they are taken
abbrev pub IsReading : List Text → Result Options WordsError → Type 0
IsReading ws (Ok options) = Takes ws options
IsReading ws (Err Usage) = Refuses ws
IsReading ws (Err NoMemory) = ⊤

-- these options, or there was no memory
abbrev pub IsOrNoMemory : Options → Result Options WordsError → Type 0
IsOrNoMemory options (Ok read) = read ≡ options
IsOrNoMemory options (Err Usage) = ⊥
IsOrNoMemory options (Err NoMemory) = ⊤
