-- What a run of the program answers, and why.
use Rattle.std.specs.Prelude.{◌≡◌, ◌<◌, ℕ, false, List, Option, Result, Ok, Err, IsOk, ◌⊎◌, length}
use Rattle.std.specs.List.{flat_map}
use Rattle.hb_causes.specs.Faults.{Rose}
use Rattle.ns_tree.specs.Tree.{Tree}
use Rattle.hbase_shell.specs.declared.run_error.RunError.{RunError}
use Rattle.hbase_shell.specs.declared.run_error.RunError.TheVariants.{TooLong, BadScript, Usage, ReadFault, NsFault, NoMemory}
use Rattle.hbase_shell.specs.Output.{Writes, WritesFront}
use Rattle.hbase_shell.specs.RunError as error
use Rattle.hbase_shell.specs.Script.{IsScript, ReadsBad, ReadsTooLong, ReadsWhole, lines_of, run_kinds}
use Rattle.hbase_shell.specs.Snapshots.{IsListing}
use Rattle.shell_script.specs.declared.session.Script.{Script}
use Rattle.shell_script.specs.Script.{AreParsed}
use Rattle.shell_words.specs.declared.options.Options.{Options}
use Rattle.shell_words.specs.declared.words.WordsError.{WordsError}
use Rattle.shell_words.specs.declared.words.WordsError.TheVariants as words
use Rattle.shell_words.specs.Reading.{IsReading}

-- the text that an answer writes
abbrev pub text_of : Result (List ℕ) RunError → List ℕ
text_of (Ok text) = text
text_of (Err e) = error.last_line e

-- the exit status of an answer that is written whole
abbrev pub status_of : Result (List ℕ) RunError → ℕ
status_of (Ok text) = 0
status_of (Err e) = error.status_of e

-- the exit status of an answer that a fault of the sink cut off
abbrev pub write_fault_status : ℕ
write_fault_status = 4

-- a value before a run and after it
pub record Change (X : Type 0) : Type 0 where
  pub old : X
  pub new : X

-- What a run meets before it has an answer: what its words say; what its source tells to be left, and how many calls of that have
-- failed; the store, how many calls of that have failed, and the tree that it tells before.
pub record Met (N : Type 0) : Type 0 where
  pub words : Result Options WordsError
  pub left : Change (Option (List ℕ))
  pub read_faults : Change ℕ
  pub store : Change N
  pub ns_faults : Change ℕ
  pub told : Option Tree

-- what its answer meets: what its sink tells to have been written, and how many calls of that have failed
pub record Sent : Type 0 where
  pub written : Change (Option (List ℕ))
  pub write_faults : Change ℕ

-- what a sink tells of itself, before and after
abbrev pub sent_of : {O : Type 0} → (O → Option (List ℕ)) → (O → ℕ) → O → O → Sent
sent_of written faults old new = record {
  written = record { old = written old; new = written new };
  write_faults = record { old = faults old; new = faults new };
}

-- what a source and a store tell of themselves, before and after, and what the words say
abbrev pub met_of : {I N : Type 0} → (I → Option (List ℕ)) → (I → ℕ) → I → I → (N → ℕ) → (N → Option Tree) → N → N → Result Options WordsError → Met N
met_of left read_faults old_input new_input ns_faults told old_store new_store words = record {
  words = words;
  left = record { old = left old_input; new = left new_input };
  read_faults = record { old = read_faults old_input; new = read_faults new_input };
  store = record { old = old_store; new = new_store };
  ns_faults = record { old = ns_faults old_store; new = ns_faults new_store };
  told = told old_store;
}

-- the input was a script, and these are its sessions
abbrev pub ReadsScript : Option (List ℕ) → Option (List ℕ) → Script → Type 0
ReadsScript left rest script = (input : List ℕ) × ReadsWhole left rest input × IsScript input × AreParsed run_kinds false (lines_of input) script.sessions

-- what brings an error while the script is read: of its source's counts of failed calls, and of what that tells
abbrev pub IsScriptCause : Option (List ℕ) → Option (List ℕ) → ℕ → ℕ → RunError → Type 0
IsScriptCause left rest before after TooLong = ReadsTooLong left rest
IsScriptCause left rest before after (BadScript bad) = ReadsBad left rest bad.session bad.line bad.column × (bad.text ≡ error.bad_line bad.session bad.line bad.column)
IsScriptCause left rest before after ReadFault = Rose before after
IsScriptCause left rest before after NoMemory = Unit {0}
IsScriptCause left rest before after Usage = ⊥
IsScriptCause left rest before after NsFault = ⊥

-- the words were taken, and the input was a script
abbrev pub WasScript : {N : Type 0} → Met N → Type 0
WasScript met = IsOk met.words × (input : List ℕ) × ReadsWhole met.left.old met.left.new input × IsScript input

-- the store is as it was handed in
abbrev pub IsUntouched : {N : Type 0} → Met N → Type 0
IsUntouched met = met.store.new ≡ met.store.old

-- what brings an error while the script is read, after words that were taken and before the store is asked
abbrev pub IsInputCause : {N : Type 0} → Met N → RunError → Type 0
IsInputCause met e = IsOk met.words × IsScriptCause met.left.old met.left.new met.read_faults.old met.read_faults.new e × IsUntouched met

-- what brings an error
abbrev pub IsCause : {N : Type 0} → Met N → RunError → Type 0
IsCause met Usage = (met.words ≡ Err words.Usage) × IsUntouched met
IsCause met TooLong = IsInputCause met TooLong
IsCause met (BadScript bad) = IsInputCause met (BadScript bad)
IsCause met ReadFault = IsInputCause met ReadFault
IsCause met NsFault = WasScript met × Rose met.ns_faults.old met.ns_faults.new
IsCause met NoMemory = (((met.words ≡ Err words.NoMemory) ⊎ IsOk met.words) × IsUntouched met) ⊎ WasScript met

-- one listing of the store's snapshots stands for each of the lines; the store was asked for it if there is a line
pub record AreListings (told : Option Tree) (lines : List (ℕ × List ℕ)) (text : List ℕ) : Type 0 where
  pub listing : List ℕ
  pub whole : text ≡ flat_map (λ (line : ℕ × List ℕ). listing) lines
  pub listed : 0 < length lines → IsListing told listing

-- what brings an answer
abbrev pub IsDue : {N : Type 0} → Met N → Result (List ℕ) RunError → Type 0
IsDue met (Ok text) = IsOk met.words × (input : List ℕ) × ReadsWhole met.left.old met.left.new input × IsScript input × AreListings met.told (lines_of input) text
IsDue met (Err e) = IsCause met e

-- the answer was written whole, or a fault of the sink cut it off
abbrev pub IsWritten : Sent → Result (List ℕ) RunError → ℕ → Type 0
IsWritten sent answer status =
    (Writes sent.written.old sent.written.new (text_of answer) × (status ≡ status_of answer))
    ⊎ (WritesFront sent.written.old sent.written.new (text_of answer) × Rose sent.write_faults.old sent.write_faults.new × (status ≡ write_fault_status))

-- a run had an answer that was due, and wrote it
pub record IsAnswered {N : Type 0} (met : Met N) (sent : Sent) (status : ℕ) : Type 0 where
  pub answer : Result (List ℕ) RunError
  pub due : IsDue met answer
  pub written : IsWritten sent answer status

-- a run read its words, and had an answer to what it met with them
pub record IsRun {N : Type 0} (given : List (List ℕ)) (met : Result Options WordsError → Met N) (sent : Sent) (status : ℕ) : Type 0 where
  pub words : Result Options WordsError
  pub reading : IsReading given words
  pub answered : IsAnswered (met words) sent status

-- the whole input was a script, and its answer was written whole
abbrev pub AnswersScript : Option Tree → Option (List ℕ) → Option (List ℕ) → Option (List ℕ) → Option (List ℕ) → Type 0
AnswersScript told left rest old new =
    (input : List ℕ) × (text : List ℕ) × ReadsWhole left rest input × IsScript input × AreListings told (lines_of input) text × Writes old new text

-- the input was no script, and that was written: it is too long, or it has a bad line, and which is the first
abbrev pub RefusesScript : Option (List ℕ) → Option (List ℕ) → Option (List ℕ) → Option (List ℕ) → Type 0
RefusesScript left rest old new =
    (ReadsTooLong left rest × Writes old new (error.last_line TooLong))
    ⊎ ((session : ℕ) × (number : ℕ) × (column : ℕ) × ReadsBad left rest session number column × Writes old new (error.bad_line session number column))
