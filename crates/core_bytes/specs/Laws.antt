-- What holds of the bytes of files, each as the contract of a law of its own.
use Rattle.std.specs.Prelude.{ℕ, ◌+◌, ◌≤◌, List, [], ◌∷◌, take}
use Rattle.core_model.specs.declared.journal.JournalEntry.{JournalEntry}
use Rattle.core_model.specs.declared.opening.Opening.{Opening}
use Rattle.core_model.specs.declared.step.Step.{Step}
use Rattle.core_model.specs.Allows.{Allows, AllowsAll}
use Rattle.core_model.specs.Opened.{opened}
use Rattle.core_model.specs.Replay.{after, begun, replay}
use Rattle.core_model.specs.Replay as replay
use Rattle.core_model.specs.Sound.{IsSound}
use Rattle.core_model.specs.State.{Parts, State}
use Rattle.core_sound.specs.Laws.{bare_opening}
use Rattle.core_bytes.specs.Written.{Writes, IsWritten, IsWrittenState, IsSized}

-- a step that writes and moves files of what it says keeps what files have
abbrev pub KeepsWritten : Step → Parts → Type 0
KeepsWritten p s = s.files ≤ 4_194_304 → Allows p s → Writes p s → IsSound s → IsWritten s → IsWritten (after p s)

abbrev pub KeepsSizes : Step → Parts → Type 0
KeepsSizes p s = s.files ≤ 4_194_304 → Allows p s → IsSound s → IsSized s → IsSized (after p s)

-- each entry writes and moves files of what it says
abbrev pub WriteFrom : ℕ → State → List JournalEntry → Type 0
WriteFrom n s [] = Unit {0}
WriteFrom n s (e ∷ es) = Writes e.step s.now × WriteFrom (n + 1) (replay.step n s e) es

-- so in each state of a journal of allowed entries files have what is known of them
abbrev pub LeadsToWritten : Opening → List JournalEntry → ℕ → Type 0
LeadsToWritten o es k = IsSound (opened o) → IsWritten (opened o) → AllowsAll o es → WriteFrom 0 (begun o) es → IsWrittenState (replay o (take k es))

abbrev pub BeginsWritten : ℕ → ℕ → Type 0
BeginsWritten epoch ttl = IsWritten (opened (bare_opening epoch ttl)) × IsSized (opened (bare_opening epoch ttl))
