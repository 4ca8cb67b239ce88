-- A core as contracts see it.
use Rattle.std.specs.Prelude.{List, Option}
use Rattle.core_model.specs.declared.journal.JournalEntry.{JournalEntry}
use Rattle.core_model.specs.declared.opening.Opening.{Opening}
use Rattle.core_model.specs.declared.step.Step.{Step}
use Rattle.core_model.specs.Replay.{replay}
use Rattle.core_model.specs.State.{Parts, State}

-- its opening, the entries of its journal, and the step that memory was taken for last
pub record Held : Type 0 where
  pub opening : Opening
  pub entries : List JournalEntry
  pub prepared : Option Step

-- the state: the replay of the journal
abbrev pub state_of : Held → State
state_of h = replay h.opening h.entries

abbrev pub parts_of : Held → Parts
parts_of h = (state_of h).now
