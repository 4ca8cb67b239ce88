-- What the files of halves say, each as the contract of a law of its own.
use Rattle.std.specs.Prelude.{ℕ, ◌≤◌, List, take}
use Rattle.core_model.specs.declared.journal.JournalEntry.{JournalEntry}
use Rattle.core_model.specs.declared.opening.Opening.{Opening}
use Rattle.core_model.specs.declared.step.Step.{Step}
use Rattle.core_model.specs.Allows.{Allows, AllowsAll}
use Rattle.core_model.specs.Opened.{opened}
use Rattle.core_model.specs.Replay.{after, begun, replay}
use Rattle.core_model.specs.Sound.{IsSound}
use Rattle.core_model.specs.State.{Parts}
use Rattle.core_sound.specs.Laws.{bare_opening}
use Rattle.core_bytes.specs.Laws.{WriteFrom}
use Rattle.core_bytes.specs.Written.{Writes}
use Rattle.core_contents.specs.Faithful.{IsFaithful}
use Rattle.core_points.specs.Points.{IsPointed, IsPointedState}

-- an allowed step that writes what it says keeps that the files of halves say their rows and sides
abbrev pub KeepsPointed : Step → Parts → Type 0
KeepsPointed p s = s.files ≤ 4_194_304 → Allows p s → Writes p s → IsSound s → IsFaithful s → IsPointed s → IsPointed (after p s)

-- so does each front of a journal of such entries, done or failed
abbrev pub LeadsToPointed : Opening → List JournalEntry → ℕ → Type 0
LeadsToPointed o es k = IsSound (opened o) → IsFaithful (opened o) → IsPointed (opened o) → AllowsAll o es → WriteFrom 0 (begun o) es → IsPointedState (replay o (take k es))

abbrev pub BeginsPointed : ℕ → ℕ → Type 0
BeginsPointed epoch ttl = IsPointed (opened (bare_opening epoch ttl))
